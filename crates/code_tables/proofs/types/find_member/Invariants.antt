use Rattle.std.proofs.Common.{◌≡◌, drop}
use Rattle.std.specs.List.{flat_map}
use Rattle.cl_mean.specs.Shape.{members_of, structs_of}
use Rattle.code_tables.specs.Types.{behind, section_of}
use Rattle.code_tables.proofs.types.find_member.Given as goal

abbrev pub invariant-loop-declaration : goal.invariant-loop-declaration
invariant-loop-declaration l =
    section_of (members_of (structs_of l.items) (flat_map (λ d. d.names) l.members)) l.name
    ≡ behind l.before (section_of (members_of (structs_of l.items) (flat_map (λ d. d.names) (drop l.declaration-index l.members))) l.name)
