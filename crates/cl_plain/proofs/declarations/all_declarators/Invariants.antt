use Rattle.std.proofs.Common.{◌≡◌, drop}
use Rattle.cl_tree.specs.Spelling.{type_shape}
use Rattle.cl_tree.specs.Statements.{all_declarators}
use Rattle.cl_plain.proofs.declarations.all_declarators.Given as goal

abbrev pub invariant-loop-d : goal.invariant-loop-d
invariant-loop-d l = all_declarators l.allowed (type_shape l.base).base (drop l.d-index l.names) ≡ all_declarators l.allowed (type_shape l.base).base l.names
