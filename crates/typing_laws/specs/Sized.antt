-- Sizes and counts.
use Rattle.std.specs.Prelude.{◌≡◌, ℕ, ◌+◌, ◌≤◌, List, [], ◌∷◌, map, sum, ◌⊎◌, Option, Some, None, if◌then◌else◌}
use Rattle.cl_tree.specs.declared.token.Pragma.{Pragma}
use Rattle.cl_tree.specs.declared.tree.Declarator.{Declarator}
use Rattle.cl_tree.specs.declared.tree.Stmt.{Stmt, fold-Stmt}
use Rattle.cl_tree.specs.declared.tree.Act.{Act-F}
use Rattle.cl_tree.specs.declared.tree.Act.TheOpen as act
use Rattle.cl_tree.specs.declared.tree.Item.{Item}
use Rattle.cl_tree.specs.declared.tree.Item.TheVariants as item
use Rattle.cl_tree.specs.declared.tree.Program.{Program}
use Rattle.cl_mean.specs.Source.{item_statics}
use Rattle.cl_typing.specs.Sizes.{Size, size_of_all, body_size, sizes_after}
use Rattle.cl_typing.specs.Facts.{is_def}

-- An item stands among these where the sizes `there` of structs are known, and the first of them where `sizes` are.
abbrev pub AmongSized : List Item → List Size → Item → List Size → Type 0
AmongSized [] sizes i there = ⊥
AmongSized (first ∷ rest) sizes i there = ((i ≡ first) × (there ≡ sizes)) ⊎ AmongSized rest (sizes_after sizes first) i there

abbrev pub HasSizes : Program → Item → List Size → Type 0
HasSizes program i there = AmongSized program.items [] i there

-- the parameters and locals of the function that an item defines have at most so many integers together
abbrev pub BodyWithin : List Size → ℕ → Item → Type 0
BodyWithin sizes limit (item.Function is_static result name void_word params (Some body) line second) = body_size sizes params body ≤ limit
BodyWithin sizes limit _ = Unit {0}

-- the parameters of the function that an item defines
abbrev pub body_params : Item → List Declarator
body_params (item.Function is_static result name void_word params (Some body) line second) = params
body_params _ = []

-- the integers of all objects of static duration of these items
abbrev pub integers_from : List Size → List Item → ℕ
integers_from sizes [] = 0
integers_from sizes (i ∷ is) = size_of_all sizes (item_statics i) + integers_from (sizes_after sizes i) is

-- how many structs items declare
abbrev pub structs_among : List Item → ℕ
structs_among [] = 0
structs_among (item.Struct name members line ∷ is) = 1 + structs_among is
structs_among (_ ∷ is) = structs_among is

-- how many definitions of labels stand in a statement
abbrev pub one_def : Pragma → ℕ
one_def p = if is_def p then 1 else 0

abbrev pub maybe_count : Option ℕ → ℕ
maybe_count None = 0
maybe_count (Some n) = n

abbrev pub act_defs : Act-F ℕ ℕ → ℕ
act_defs (act.Block ss) = sum ss
act_defs (act.If c s other) = s + maybe_count other
act_defs (act.While c s) = s
act_defs (act.DoWhile s c) = s
act_defs (act.For first test next s) = maybe_count first + (maybe_count next + s)
act_defs (act.Cle p) = one_def p
act_defs _ = 0

unfoldable pub defs_in : Stmt → ℕ
defs_in = fold-Stmt ℕ ℕ act_defs (λ s. s.node)

abbrev pub item_defs : Item → ℕ
item_defs (item.Function is_static result name void_word params (Some body) line second) = sum (map defs_in body)
item_defs (item.Cle p line) = one_def p
item_defs _ = 0

-- how many definitions of labels stand in items
abbrev pub defs_among : List Item → ℕ
defs_among [] = 0
defs_among (i ∷ is) = item_defs i + defs_among is
