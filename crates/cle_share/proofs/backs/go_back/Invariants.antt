use Rattle.std.proofs.Common.{◌≡◌, drop}
use Rattle.cle_share.specs.Bearings.{go_back}
use Rattle.cle_share.proofs.backs.go_back.Given as goal

abbrev pub invariant-loop-place : goal.invariant-loop-place
invariant-loop-place l = go_back (drop l.place l.row) (drop l.place l.params) ≡ go_back l.row l.params
