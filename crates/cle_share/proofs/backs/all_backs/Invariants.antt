use Rattle.std.proofs.Common.{◌≡◌, ◌++◌, drop, map}
use Rattle.cle_share.specs.Bearings.{backs}
use Rattle.cle_share.proofs.backs.all_backs.Given as goal

abbrev pub invariant-loop-label : goal.invariant-loop-label
invariant-loop-label l = map (λ row. row.items) l.rows.items ++ map (backs l.labels) (drop l.label-index l.labels) ≡ map (backs l.labels) l.labels
