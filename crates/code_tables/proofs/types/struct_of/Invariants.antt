use Rattle.std.proofs.Common.{◌≡◌, take, None}
use Rattle.cl_mean.specs.Shape.{structs_of}
use Rattle.cl_tree.specs.Words.{entry}
use Rattle.code_tables.proofs.types.struct_of.Given as goal

abbrev pub invariant-loop-place : goal.invariant-loop-place
invariant-loop-place l = entry (structs_of (take l.place l.items)) l.tag ≡ None
