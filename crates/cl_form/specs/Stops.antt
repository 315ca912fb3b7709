-- The stops of the front end, as the reader of the forms has them.
use Rattle.cl_read.specs.declared.stop.ReadStop.{ReadStop}
use Rattle.cl_read.specs.declared.stop.ReadStop.TheVariants as front
use Rattle.cl_form.specs.declared.stop.FormStop.{FormStop}
use Rattle.cl_form.specs.declared.stop.FormStop.TheVariants.{NoReading, NoMemory}

-- a source that breaks a rule is of no form
abbrev pub of_front : ReadStop → FormStop
of_front (front.Refused rule line) = NoReading
of_front front.NoMemory = NoMemory
