use Rattle.std.proofs.Common.{◌≡◌, map, take}
use Rattle.guard_rules.proofs.json.path_of.Given as goal

abbrev pub invariant-loop-piece : goal.invariant-loop-piece
invariant-loop-piece l = l.path ≡ map (λ x. x.now) (take l.piece-index l.piece-items)
