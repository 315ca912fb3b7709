use Rattle.std.proofs.Common.{◌≡◌, ◌++◌, map, drop}
use Rattle.cl_levels.specs.Uses.{walk, in_turn}
use Rattle.cl_uses.proofs.stmts.+stmt.Given as goal

abbrev pub invariant-look_stmts-loop-s : goal.invariant-look_stmts-loop-s
invariant-look_stmts-loop-s l = record {
  uses : l.uses.items ++ (in_turn (map (walk l.functions) (drop l.s-index l.all)) l.spot).0
      ≡ l.initial.uses.items ++ (in_turn (map (walk l.functions) l.all) l.initial.spot).0;
  names : (in_turn (map (walk l.functions) (drop l.s-index l.all)) l.spot).1
      ≡ (in_turn (map (walk l.functions) l.all) l.initial.spot).1;
}
