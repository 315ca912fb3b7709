use Rattle.std.proofs.Common.{◌≡◌, ◌++◌, take}
use Rattle.cl_plain.specs.Parts.{floating_all}
use Rattle.cl_plain.proofs.declarations.add_base_lines.Given as goal

abbrev pub invariant-loop-d : goal.invariant-loop-d
invariant-loop-d l = l.lines ≡ l.initial.lines ++ floating_all (take l.d-index l.names)
