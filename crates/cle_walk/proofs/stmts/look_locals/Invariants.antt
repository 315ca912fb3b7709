use Rattle.std.proofs.Common.{◌≡◌, ◌++◌, drop}
use Rattle.cle_ways.specs.Ways.{locals_walk}
use Rattle.cle_walk.proofs.stmts.look_locals.Given as goal

abbrev pub invariant-loop-d : goal.invariant-loop-d
invariant-loop-d l = record {
  notes : l.notes.items ++ (locals_walk l.program l.f (drop l.d-index l.ds) l.spot).0
      ≡ l.initial.notes.items ++ (locals_walk l.program l.f l.ds l.initial.spot).0;
  names : (locals_walk l.program l.f (drop l.d-index l.ds) l.spot).1 ≡ (locals_walk l.program l.f l.ds l.initial.spot).1;
}
