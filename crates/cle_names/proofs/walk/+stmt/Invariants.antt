use Rattle.std.proofs.Common.{◌≡◌, ◌++◌, map, drop}
use Rattle.std.specs.List.{flat_map}
use Rattle.cl_labelling.specs.Pragmas.{stmt_pragmas}
use Rattle.cle_names.proofs.walk.+stmt.Given as goal

abbrev pub invariant-add_all-loop-s : goal.invariant-add_all-loop-s
invariant-add_all-loop-s l = l.all.items ++ flat_map (λ ps. ps) (map stmt_pragmas (drop l.s-index l.ss))
    ≡ l.initial.all.items ++ flat_map (λ ps. ps) (map stmt_pragmas l.ss)
