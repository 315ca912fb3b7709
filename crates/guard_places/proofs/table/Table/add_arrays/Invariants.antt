use Rattle.std.proofs.Common.{◌++◌, List, take}
use Rattle.cl_mean.specs.Shape.{structs_of}
use Rattle.cl_tree.specs.Words.{Word}
use Rattle.rpc_codec.specs.declared.leaves.Leaf.{Leaf}
use Rattle.rpc_codec.specs.Signature.{array_leaves}
use Rattle.guard_places.specs.Tables.{IsTable}
use Rattle.guard_places.proofs.table.Table.add_arrays.Given as goal

abbrev pub invariant-loop-param : goal.invariant-loop-param
invariant-loop-param l = (front : List Word → List Leaf) → IsTable l.items l.fn.self front
    → IsTable l.items l.self (λ path. front path ++ array_leaves (structs_of l.items) (take l.param-index l.params) path)
