use Rattle.std.proofs.Common.{◌≡◌, ◌++◌, List, drop}
use Rattle.cl_tree.specs.declared.tree.Declarator.{Declarator}
use Rattle.cl_mean.specs.Shape.{members_of, structs_of}
use Rattle.code_tables.specs.Types.{behind, section_of}
use Rattle.code_tables.proofs.types.find_among.Given as goal

abbrev pub invariant-loop-d : goal.invariant-loop-d
invariant-loop-d l = (es : List Declarator)
    → section_of (members_of (structs_of l.items) (l.names ++ es)) l.name ≡ behind l.offset (section_of (members_of (structs_of l.items) (drop l.d-index l.names ++ es)) l.name)
