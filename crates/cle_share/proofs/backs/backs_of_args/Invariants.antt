use Rattle.std.proofs.Common.{◌≡◌, ◌++◌, drop, map}
use Rattle.cl_labelling.specs.Shareable.{shareable_back}
use Rattle.cle_share.proofs.backs.backs_of_args.Given as goal

abbrev pub invariant-loop-arg : goal.invariant-loop-arg
invariant-loop-arg l = l.row.items ++ map (λ m. shareable_back l.labels l.label m.all) (drop l.arg-index l.args) ≡ map (λ m. shareable_back l.labels l.label m.all) l.args
