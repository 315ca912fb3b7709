use Rattle.std.proofs.Common.{◌∙◌}
use Rattle.cl_regions.specs.Ahead.{ends_ahead}
use Rattle.cl_regions.proofs.Aheads.{ended}
use Rattle.cl_regions.proofs.ahead.Ahead.is_ended.Goals as goal

pub returns : goal.returns
returns c = λ ps h. c.has.ensures (ends_ahead ps) h.ends ∙ ended c.args.name.now ps
