-- What the code knows of an expression, as the definition has it.
use Rattle.std.specs.Prelude.{ℕ, option_map, List, [], ◌∷◌, map, Bool, false}
use Rattle.cl_tree.specs.declared.tree.Expr.{Expr}
use Rattle.cl_typing.specs.Scope.{Env}
use Rattle.cl_typing.specs.declared.format.Part.{Part}
use Rattle.cl_typing.specs.declared.format.Want.{Want}
use Rattle.cl_tree.specs.declared.tree.CType.{CType}
use Rattle.cl_tree.specs.declared.tree.CType.TheVariants as made
use Rattle.cl_typing.specs.Types as types
use Rattle.cl_types.specs.declared.types.Kind.{Kind}
use Rattle.cl_types.specs.declared.types.Kind.TheVariants.{Integer, Written}
use Rattle.cl_types.specs.declared.types.Judged.{Judged}

abbrev pub ctype_of : Kind → CType
ctype_of (Integer kind) = made.Integer kind
ctype_of (Written t) = t.now

abbrev pub judged_of : Judged → types.Judged
judged_of j = record { ctype = option_map ctype_of j.ctype; is_place = j.is_place }

-- the first of the arguments is there, and is what a conversion takes
abbrev pub first_wanted : Want → List types.Judged → Bool
first_wanted want [] = false
first_wanted want (j ∷ js) = types.wants_operand want (types.operand j)

-- what is left of a format takes these arguments
unfoldable pub fits_from : Env → Env → Part → List ℕ → List Expr → Bool
fits_from tags names part bytes es = types.wanted (types.wants_of part bytes) (map (types.judged tags names) es)
