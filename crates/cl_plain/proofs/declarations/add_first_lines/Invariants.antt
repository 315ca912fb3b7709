use Rattle.std.proofs.Common.{◌≡◌, ◌++◌, take}
use Rattle.cl_plain.specs.Parts.{other_all}
use Rattle.cl_plain.proofs.declarations.add_first_lines.Given as goal

abbrev pub invariant-loop-d : goal.invariant-loop-d
invariant-loop-d l = l.lines ≡ l.initial.lines ++ other_all (take l.d-index l.names)
