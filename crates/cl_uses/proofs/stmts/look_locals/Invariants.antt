use Rattle.std.proofs.Common.{◌≡◌, ◌++◌, drop}
use Rattle.cl_levels.specs.Uses.{locals_walk}
use Rattle.cl_uses.proofs.stmts.look_locals.Given as goal

abbrev pub invariant-loop-d : goal.invariant-loop-d
invariant-loop-d l = record {
  uses : l.uses.items ++ (locals_walk l.functions (drop l.d-index l.ds) l.spot).0
      ≡ l.initial.uses.items ++ (locals_walk l.functions l.ds l.initial.spot).0;
  names : (locals_walk l.functions (drop l.d-index l.ds) l.spot).1 ≡ (locals_walk l.functions l.ds l.initial.spot).1;
}
