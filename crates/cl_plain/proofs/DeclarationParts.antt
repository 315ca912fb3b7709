-- The spellings of declarations, part by part.
use Rattle.std.proofs.Common.{◌≡◌, ℕ, List, [], ◌++◌, Bool, true, false, ap, sym, ◌∙◌, append_assoc, map}
use Rattle.std.proofs.lemmas.Grind.{common_steps}
use Rattle.cl_tree.specs.declared.token.Mark.TheVariants as mark
use Rattle.cl_tree.specs.declared.grammar.Keyword.TheVariants as key
use Rattle.cl_tree.specs.declared.grammar.Sign.TheVariants as sign
use Rattle.cl_tree.specs.declared.tree.Declarator.{Declarator}
use Rattle.cl_tree.specs.declared.tree.Declaration.{Declaration}
use Rattle.cl_tree.specs.Spelling.{Spelling, put_at, key_on, put_mark, commas, type_shape, star_lines, held_by}
use Rattle.cl_tree.specs.Statements.{declarator, declaration, declared, common_base, base_of, base_lines, first_lines, initialiser}
use Rattle.cl_tree.specs.Items.{member, parameter}
use Rattle.cl_plain.specs.Parts.{base_part, stars_part, dims_part, init_part, star_line, floating_line, other_line, floating_all, specifiers}
use Rattle.cl_plain.proofs.Parts.{base_then, stars_then, dims_after}

pub declarator_is : (d : Declarator)
    → declarator d ≡ stars_part (star_line d.ctype d.second) (type_shape d.ctype).stars ++ put_at d.line (sign.Name d.name) (dims_part (type_shape d.ctype).dims ++ init_part d.init)
unfolding declarator star_line init_part
declarator_is d =
    stars_then _ (type_shape d.ctype).stars _ ∙ ap (λ (s : Spelling). stars_part (star_lines (held_by d.ctype) d.second) (type_shape d.ctype).stars ++ put_at d.line (sign.Name d.name) s) (dims_after (type_shape d.ctype).dims (initialiser d.init))

pub ruleset declarator_rules = (common_steps, declarator_is)

declared_is : (lines : List ℕ) (static : Bool) (names : List Declarator) → declared lines static names ≡ specifiers lines static names ++ commas (map declarator names)
unfolding specifiers floating_line other_line
declared_is lines true names = ap (λ (s : Spelling). key_on (lines ++ first_lines names) key.Static s) (base_then (base_lines names) (common_base names) _)
declared_is lines false names =
    base_then (lines ++ (first_lines names ++ base_lines names)) (common_base names) _ ∙ ap (λ (ls : List ℕ). base_part ls (common_base names) ++ commas (map declarator names)) (sym (append_assoc lines (first_lines names) (base_lines names)))

pub declaration_is : (lines : List ℕ) (d : Declaration) → declaration lines d ≡ specifiers lines d.is_static d.names ++ commas (map declarator d.names)
unfolding declaration
declaration_is lines d = declared_is lines d.is_static d.names

pub ruleset declaration_rules = (common_steps, declaration_is)

pub member_is : (d : Declaration) → member d ≡ base_part (floating_all d.names) (common_base d.names) ++ (commas (map declarator d.names) ++ put_mark mark.Semicolon [])
unfolding floating_line
member_is d = base_then (base_lines d.names) (common_base d.names) _

pub ruleset member_rules = (common_steps, member_is)

pub parameter_is : (d : Declarator) → parameter d ≡ base_part (floating_line d.ctype d.second) (base_of d) ++ declarator d
unfolding floating_line
parameter_is d = base_then _ (base_of d) _

pub ruleset parameter_rules = (common_steps, parameter_is)
