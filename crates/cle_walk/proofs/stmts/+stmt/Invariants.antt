use Rattle.std.proofs.Common.{◌≡◌, ◌++◌, map, drop}
use Rattle.cle_ways.specs.Ways.{walk, in_turn}
use Rattle.cle_walk.proofs.stmts.+stmt.Given as goal

abbrev pub invariant-look_stmts-loop-s : goal.invariant-look_stmts-loop-s
invariant-look_stmts-loop-s l = record {
  notes : l.notes.items ++ (in_turn (map (walk l.program l.f) (drop l.s-index l.all)) l.spot).0
      ≡ l.initial.notes.items ++ (in_turn (map (walk l.program l.f) l.all) l.initial.spot).0;
  names : (in_turn (map (walk l.program l.f) (drop l.s-index l.all)) l.spot).1
      ≡ (in_turn (map (walk l.program l.f) l.all) l.initial.spot).1;
}
