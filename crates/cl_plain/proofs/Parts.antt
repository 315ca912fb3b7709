-- A part and what follows it.
use Rattle.std.proofs.Common.{◌≡◌, ℕ, zero, suc, List, [], ◌∷◌, ◌++◌, refl, ap, sym, ◌∙◌, append_assoc}
use Rattle.std.proofs.lemmas.Grind.{common_steps}
use Rattle.std.proofs.lemmas.List.{append-nil}
use Rattle.cl_tree.specs.declared.token.Mark.TheVariants as mark
use Rattle.cl_tree.specs.declared.grammar.Base.{Base}
use Rattle.cl_tree.specs.declared.grammar.Base.TheVariants as base
use Rattle.cl_tree.specs.declared.tree.CType.{CType}
use Rattle.cl_tree.specs.Spelling.{Spelling, base_on, stars_on, dims_then, type_name, floating_lines, other_lines, held_by, mark_on, put_mark, type_shape}
use Rattle.cl_plain.specs.Parts.{base_part, stars_part, dims_part, type_part, cast_part, star_line, floating_line, other_line}

pub base_then : (lines : List ℕ) (b : Base) (rest : Spelling) → base_on lines b rest ≡ base_part lines b ++ rest
unfolding base_part
base_then lines base.Void rest = refl
base_then lines (base.Kind kind) rest = refl
base_then lines base.Real rest = refl
base_then lines (base.Tag tag) rest = refl

pub stars_then : (lines : List ℕ) (n : ℕ) (rest : Spelling) → stars_on lines n rest ≡ stars_part lines n ++ rest
unfolding stars_part
stars_then lines zero rest = refl
stars_then lines (suc n) rest = ap (λ (s : Spelling). mark_on lines mark.Star s) (stars_then [] n rest)

pub dims_after : (ns : List ℕ) (rest : Spelling) → dims_then ns rest ≡ dims_part ns ++ rest
unfolding dims_part
dims_after [] rest = refl
dims_after (n ∷ ns) rest = ap (λ (s : Spelling). dims_then (n ∷ []) s) (dims_after ns rest)

-- a type is its base and its stars
pub type_after : (lines : List ℕ) (t : CType) (second : ℕ) (rest : Spelling)
    → type_name lines t second rest ≡ base_part (lines ++ floating_line t second) (type_shape t).base ++ (stars_part (star_line t second) (type_shape t).stars ++ rest)
unfolding star_line floating_line
type_after lines t second rest =
    base_then _ (type_shape t).base _ ∙ ap (λ (s : Spelling). base_part (lines ++ floating_lines (held_by t) second) (type_shape t).base ++ s) (stars_then _ (type_shape t).stars rest)

pub type_is : (lines : List ℕ) (t : CType) (second : ℕ)
    → type_part lines t second ≡ base_part (lines ++ floating_line t second) (type_shape t).base ++ stars_part (star_line t second) (type_shape t).stars
unfolding type_part
type_is lines t second =
    type_after lines t second [] ∙ ap (λ (s : Spelling). base_part (lines ++ floating_line t second) (type_shape t).base ++ s) (append-nil _)

pub type_then : (lines : List ℕ) (t : CType) (second : ℕ) (rest : Spelling) → type_name lines t second rest ≡ type_part lines t second ++ rest
type_then lines t second rest =
    type_after lines t second rest ∙ sym (ap (λ (s : Spelling). s ++ rest) (type_is lines t second) ∙ append_assoc _ _ rest)

pub ruleset type_rules = (common_steps, type_is)

-- a cast's type is its parentheses and its type
pub cast_is : (lines : List ℕ) (t : CType) (second : ℕ)
    → cast_part lines t second ≡ mark_on (lines ++ other_line t second) mark.OpenParen (type_part [] t second ++ put_mark mark.CloseParen [])
unfolding cast_part other_line
cast_is lines t second =
    ap (λ (s : Spelling). mark_on (lines ++ other_lines (held_by t) second) mark.OpenParen s) (type_then [] t second _)

pub ruleset cast_rules = (common_steps, cast_is)

pub cast_then : (lines : List ℕ) (t : CType) (second : ℕ) (rest : Spelling)
    → mark_on (lines ++ other_lines (held_by t) second) mark.OpenParen (type_name [] t second (put_mark mark.CloseParen rest)) ≡ cast_part lines t second ++ rest
unfolding cast_part
cast_then lines t second rest =
    ap (λ (s : Spelling). mark_on (lines ++ other_lines (held_by t) second) mark.OpenParen s)
    (type_then [] t second _ ∙ sym (ap (λ (s : Spelling). s ++ rest) (type_then [] t second (put_mark mark.CloseParen [])) ∙ append_assoc _ _ rest))
