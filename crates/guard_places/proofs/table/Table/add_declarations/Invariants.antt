use Rattle.std.proofs.Common.{◌++◌, List, take, true}
use Rattle.std.specs.List.{flat_map}
use Rattle.cl_mean.specs.Shape.{members_of, structs_of}
use Rattle.cl_tree.specs.Words.{Word}
use Rattle.rpc_codec.specs.declared.leaves.Leaf.{Leaf}
use Rattle.rpc_codec.specs.Leaves.{member_leaves}
use Rattle.guard_places.specs.Tables.{IsTable}
use Rattle.guard_places.proofs.table.Table.add_declarations.Given as goal

abbrev pub invariant-loop-declaration : goal.invariant-loop-declaration
invariant-loop-declaration l = (front : List Word → List Leaf) → IsTable l.items l.fn.self front
    → IsTable l.items l.self (λ path. front path ++ member_leaves (members_of (structs_of (take l.known l.items)) (flat_map (λ d. d.names) (take l.declaration-index l.declarations))) true path)
