-- The stops of the passes, as the front end has them.
use Rattle.cl_read.specs.declared.stop.ReadStop.{ReadStop}
use Rattle.cl_read.specs.declared.stop.ReadStop.TheVariants as reading
use Rattle.cl_sema.specs.declared.stop.SemaStop.{SemaStop}
use Rattle.cl_sema.specs.declared.stop.SemaStop.TheVariants as typing
use Rattle.cle_defs.specs.declared.stop.CleStop.{CleStop}
use Rattle.cle_defs.specs.declared.stop.CleStop.TheVariants as labelling
use Rattle.cl_split.specs.declared.stop.SplitStop.{SplitStop}
use Rattle.cl_split.specs.declared.stop.SplitStop.TheVariants as splitting
use Rattle.cle_flow.specs.declared.stop.FlowStop.{FlowStop}
use Rattle.cle_flow.specs.declared.stop.FlowStop.TheVariants as flowing
use Rattle.cl_front.specs.declared.stop.FrontStop.{FrontStop}
use Rattle.cl_front.specs.declared.stop.FrontStop.TheVariants.{Refused, NoMemory}

abbrev pub of_reading : ReadStop → FrontStop
of_reading (reading.Refused rule line) = Refused rule line
of_reading reading.NoMemory = NoMemory

abbrev pub of_typing : SemaStop → FrontStop
of_typing (typing.Rule rule line) = Refused rule line
of_typing typing.NoMemory = NoMemory

abbrev pub of_labelling : CleStop → FrontStop
of_labelling (labelling.Rule rule line) = Refused rule line
of_labelling labelling.NoMemory = NoMemory

abbrev pub of_splitting : SplitStop → FrontStop
of_splitting (splitting.Rule rule line) = Refused rule line
of_splitting splitting.NoMemory = NoMemory

abbrev pub of_flowing : FlowStop → FrontStop
of_flowing (flowing.Rule rule line) = Refused rule line
of_flowing flowing.NoMemory = NoMemory
