use Rattle.std.proofs.Common.{◌≡◌, drop}
use Rattle.cle_share.specs.Bearings.{flag_at, unshared_by}
use Rattle.cle_share.proofs.share.look.Given as goal

abbrev pub invariant-loop-k : goal.invariant-loop-k
invariant-loop-k l = unshared_by (flag_at l.lending) l.labels l.k (drop l.k l.labels) ≡ unshared_by (flag_at l.lending) l.labels 0 l.labels
