use Rattle.std.proofs.lemmas.Slice.Eq.{bytes_eq-Decides, slice_eq-Decides}
use Rattle.guard_rules.proofs.found.same_path.Goals as goal

pub returns : goal.returns
returns c = λ h. (slice_eq-Decides bytes_eq-Decides c.args.some.now c.args.other.now c.eq.result c.eq.ensures).0 h
