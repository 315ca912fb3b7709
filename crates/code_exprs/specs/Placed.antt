-- Places of expressions.
use Rattle.std.specs.Prelude.{◌≡◌, ℕ, List, Option, Some, option_map}
use Rattle.cl_tree.specs.declared.tree.Expr.{Expr}
use Rattle.cl_mean.specs.Shape.{Shape}
use Rattle.code_forms.specs.Pieces.{Piece}
use Rattle.code_forms.specs.Lowering.{Lowered, lowered}
use Rattle.code_tables.specs.Facts.{Held, facts_by}
use Rattle.code_tables.specs.Table.{Named, bounds}
use Rattle.code_exprs.specs.Written.{Written, wrote}

-- the type of an expression's place, where it has one
abbrev pub place_shape : Lowered → Option Shape
place_shape e = option_map (λ p. e.shape) e.place

-- what is written of the place of an expression that has one
abbrev pub IsPlaced : Lowered → ℕ → Written → Written → Type 0
IsPlaced e top old new = (p : Piece) → e.place ≡ Some p → new ≡ wrote p top old

-- the type of an expression that has a place
abbrev pub IsTyped : Lowered → Shape → Type 0
IsTyped e shape = (p : Piece) → e.place ≡ Some p → shape ≡ e.shape

-- the code of an expression, by what the compiler holds
abbrev pub low : Held → List Named → Expr → Lowered
low facts names e = lowered (facts_by facts) (bounds names) e
