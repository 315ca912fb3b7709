use Rattle.std.proofs.Common.{◌≡◌, ◌++◌, take}
use Rattle.std.specs.List.{flat_map}
use Rattle.cl_plain.specs.Parts.{other_all}
use Rattle.cl_plain.proofs.items.add_member_lines.Given as goal

abbrev pub invariant-loop-d : goal.invariant-loop-d
invariant-loop-d l = l.lines ≡ l.initial.lines ++ flat_map (λ d. other_all d.names) (take l.d-index l.members)
