-- The spellings of items, part by part, and what is well-formed.
use Rattle.std.proofs.Common.{◌≡◌, ℕ, List, [], ◌∷◌, ◌++◌, Bool, true, false, ◌&&◌, Option, refl, ap, sym, ◌∙◌, append_assoc, map}
use Rattle.std.specs.Prelude.{IsTrue, ◌↔◌}
use Rattle.std.specs.List.{flat_map}
use Rattle.std.proofs.lemmas.List.{append-nil}
use Rattle.cl_tree.specs.declared.token.Mark.TheVariants as mark
use Rattle.cl_tree.specs.declared.grammar.Keyword.TheVariants as key
use Rattle.cl_tree.specs.declared.grammar.Sign.TheVariants as sign
use Rattle.cl_tree.specs.declared.tree.CType.{CType}
use Rattle.cl_tree.specs.declared.tree.Declarator.{Declarator}
use Rattle.cl_tree.specs.declared.tree.Declaration.{Declaration}
use Rattle.cl_tree.specs.declared.tree.Stmt.{Stmt}
use Rattle.cl_tree.specs.declared.tree.Item.{Item}
use Rattle.cl_tree.specs.declared.tree.Item.TheVariants as item
use Rattle.cl_tree.specs.declared.tree.Program.{Program}
use Rattle.cl_tree.specs.Words.{Word}
use Rattle.cl_tree.specs.Spelling.{Spelling, put_on, put, put_mark, key_on, commas, other_lines, held_by}
use Rattle.cl_tree.specs.Statements.{first_lines}
use Rattle.cl_tree.specs.Items.{item_spelling, function, named_function, parameters, parameter, body_then, member, WellFormed}
use Rattle.cl_plain.specs.Parts.{head_part, parameters_part, body_part, named_part, other_line, other_all}
use Rattle.cl_plain.specs.Wanting.{all_well_formed}
use Rattle.cl_plain.proofs.Parts.{type_then}

function_then : (static : Bool) (lines : List ℕ) (t : CType) (second : ℕ) (rest : Spelling) → function static lines t second rest ≡ head_part static lines t second ++ rest
unfolding head_part
function_then true lines t second rest = ap (λ (s : Spelling). key_on lines key.Static s) (type_then [] t second rest)
function_then false lines t second rest = type_then lines t second rest

parameters_then : (void_word : Bool) (params : List Declarator) (rest : Spelling) → parameters void_word params rest ≡ parameters_part void_word params ++ rest
unfolding parameters_part
parameters_then true params rest = refl
parameters_then false params rest = sym (ap (λ (s : Spelling). s ++ rest) (append-nil (commas (map parameter params))))

named_then : (t : CType) (name : Word) (void_word : Bool) (params : List Declarator) (body : Option (List Stmt)) (second : ℕ)
    → named_function t name void_word params body second ≡ named_part t name void_word params second ++ body_part body
unfolding named_part other_line body_part
named_then t name void_word params body second =
    ap (λ (s : Spelling). put_on (other_lines (held_by t) second) (sign.Name name) (put_mark mark.OpenParen s))
    (parameters_then void_word params (put_mark mark.CloseParen (body_then body)) ∙ sym (append_assoc (parameters_part void_word params) (put_mark mark.CloseParen []) (body_then body)))

pub function_spelling : (i : Item) (static : Bool) (t : CType) (name : Word) (void_word : Bool) (params : List Declarator) (body : Option (List Stmt)) (line second : ℕ)
    → i ≡ item.Function static t name void_word params body line second
    → item_spelling i ≡ head_part static (line ∷ other_all params) t second ++ (named_part t name void_word params second ++ body_part body)
unfolding item_spelling other_line
function_spelling i static t name void_word params body line second h =
    ap item_spelling h ∙ function_then static (line ∷ first_lines params) t second _ ∙ ap (λ (s : Spelling). head_part static (line ∷ first_lines params) t second ++ s) (named_then t name void_word params body second)

pub struct_spelling : (i : Item) (name : Word) (members : List Declaration) (line : ℕ) → i ≡ item.Struct name members line
    → item_spelling i ≡ key_on (line ∷ flat_map (λ d. other_all d.names) members) key.Struct (put (sign.Name name) (put_mark mark.OpenBrace (flat_map member members ++ put_mark mark.CloseBrace (put_mark mark.Semicolon []))))
unfolding item_spelling other_line
struct_spelling i name members line h = ap item_spelling h

-- ---- well-formed programs

both : (a b : Bool) → (a && b) ≡ true → (a ≡ true) × (b ≡ true)
both true b h = (refl, h)
both false b h = absurd (cc)

both_of : (a b : Bool) → a ≡ true → b ≡ true → (a && b) ≡ true
both_of true b h k = k
both_of false b h k = h

all_formed : (is : List Item) → all_well_formed is ≡ true → WellFormed (record { items = is })
unfolding all_well_formed
all_formed [] h = tt
all_formed (i ∷ is) h = let p = both _ _ h in (p.0, all_formed is p.1)

formed_all : (is : List Item) → WellFormed (record { items = is }) → all_well_formed is ≡ true
unfolding all_well_formed
formed_all [] h = refl
formed_all (i ∷ is) h = both_of _ _ h.0 (formed_all is h.1)

pub well_formed_is : (p : Program) → IsTrue (all_well_formed p.items) ↔ WellFormed p
well_formed_is p = (all_formed p.items, formed_all p.items)
