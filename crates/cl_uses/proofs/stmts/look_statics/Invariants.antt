use Rattle.std.proofs.Common.{◌≡◌, ◌++◌, drop}
use Rattle.cl_levels.specs.Uses.{statics_walk}
use Rattle.cl_uses.proofs.stmts.look_statics.Given as goal

abbrev pub invariant-loop-d : goal.invariant-loop-d
invariant-loop-d l = record {
  uses : l.uses.items ++ (statics_walk (drop l.d-index l.ds) l.spot).0
      ≡ l.initial.uses.items ++ (statics_walk l.ds l.initial.spot).0;
  names : (statics_walk (drop l.d-index l.ds) l.spot).1 ≡ (statics_walk l.ds l.initial.spot).1;
}
