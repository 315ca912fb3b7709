-- How items are spelled, which are well-formed, and where items end.
use Rattle.std.specs.Prelude.{◌≡◌, ℕ, List, [], ◌∷◌, ◌++◌, map, Option, Some, None, Bool, true, false, not, ◌&&◌, ◌||◌, if◌then◌else◌}
use Rattle.std.specs.List.{flat_map}
use Rattle.cl_tree.specs.declared.token.Mark.{Mark}
use Rattle.cl_tree.specs.declared.token.Mark.TheVariants as mark
use Rattle.cl_tree.specs.declared.grammar.Keyword.TheVariants as key
use Rattle.cl_tree.specs.declared.grammar.Sign.{Sign}
use Rattle.cl_tree.specs.declared.grammar.Sign.TheVariants as sign
use Rattle.cl_tree.specs.declared.grammar.Terminal.{Terminal}
use Rattle.cl_tree.specs.declared.tree.CType.{CType}
use Rattle.cl_tree.specs.declared.tree.Declarator.{Declarator}
use Rattle.cl_tree.specs.declared.tree.Declaration.{Declaration}
use Rattle.cl_tree.specs.declared.tree.Stmt.{Stmt}
use Rattle.cl_tree.specs.declared.tree.Item.{Item}
use Rattle.cl_tree.specs.declared.tree.Item.TheVariants as item
use Rattle.cl_tree.specs.declared.tree.Program.{Program}
use Rattle.cl_tree.specs.Spelling.{Spelling, put_on, put, put_at, put_mark, put_key, key_on, commas, held_by, floating_lines, other_lines, is_empty, is_void, base_on, type_name, is_type_name, all_come}
use Rattle.cl_tree.specs.Words.{Word}
use Rattle.cl_tree.specs.Statements.{declarator, base_lines, first_lines, base_of, common_base, are_names, is_declarator, declaration, is_declaration, stmt_shape, statements, all_stmts}

-- ---- items

-- the members of one base
abbrev pub member : Declaration → Spelling
member d = base_on (base_lines d.names) (common_base d.names) (commas (map declarator d.names) ++ put_mark mark.Semicolon [])

abbrev pub is_member : Declaration → Bool
is_member d = not d.is_static && are_names false d.names

abbrev pub all_members : List Declaration → Bool
all_members [] = true
all_members (d ∷ ds) = is_member d && all_members ds

abbrev pub parameter : Declarator → Spelling
parameter d = base_on (floating_lines (held_by d.ctype) d.second) (base_of d) (declarator d)

abbrev pub all_parameters : List Declarator → Bool
all_parameters [] = true
all_parameters (d ∷ ds) = (not (is_void (base_of d)) && is_declarator false (base_of d) d) && all_parameters ds

abbrev pub parameters : Bool → List Declarator → Spelling → Spelling
parameters true params rest = put_key key.Void rest
parameters false params rest = commas (map parameter params) ++ rest

abbrev pub body_then : Option (List Stmt) → Spelling
body_then None = put_mark mark.Semicolon []
body_then (Some ss) = put_mark mark.OpenBrace (statements (map stmt_shape ss))

abbrev pub is_body : Option (List Stmt) → Bool
is_body None = true
is_body (Some ss) = all_stmts (map stmt_shape ss)

-- from the name of a function on
abbrev pub named_function : CType → Word → Bool → List Declarator → Option (List Stmt) → ℕ → Spelling
named_function result name void_word params body second =
    put_on (other_lines (held_by result) second) (sign.Name name) (put_mark mark.OpenParen (parameters void_word params (put_mark mark.CloseParen (body_then body))))

abbrev pub function : Bool → List ℕ → CType → ℕ → Spelling → Spelling
function true lines result second rest = key_on lines key.Static (type_name [] result second rest)
function false lines result second rest = type_name lines result second rest

unfoldable pub item_spelling : Item → Spelling
item_spelling (item.Struct name members line) =
    key_on (line ∷ flat_map (λ d. first_lines d.names) members) key.Struct (put (sign.Name name) (put_mark mark.OpenBrace (flat_map member members ++ put_mark mark.CloseBrace (put_mark mark.Semicolon []))))
item_spelling (item.Variables d) = declaration [] d ++ put_mark mark.Semicolon []
item_spelling (item.Function is_static result name void_word params body line second) =
    function is_static (line ∷ first_lines params) result second (named_function result name void_word params body second)
item_spelling (item.Cle p line) = put_at line (sign.Cle p) []

unfoldable pub is_item : Item → Bool
is_item (item.Struct name members line) = not (is_empty members) && all_members members
is_item (item.Variables d) = is_declaration d
is_item (item.Function is_static result name void_word params body line second) =
    is_type_name result && ((not void_word || is_empty params) && (all_parameters params && is_body body))
is_item (item.Cle p line) = true

-- A well-formed item has a form of the grammar, and each of its terminals can come out of a source.
unfoldable pub is_well_formed : Item → Bool
is_well_formed i = is_item i && all_come (item_spelling i)

abbrev pub WellFormed : Program → Type 0
WellFormed program = All_items program.items
  where
    All_items : List Item → Type 0
    All_items [] = Unit {0}
    All_items (i ∷ is) = (is_well_formed i ≡ true) × All_items is

-- The spelling of a program: those of its items, one after the other.
unfoldable pub program_spelling : Program → Spelling
program_spelling program = flat_map item_spelling program.items

-- ---- where items end

-- An open bracket; the `{` of a body follows a `)` directly.
pub data Bracket : Type 0 where
  round : Bracket
  square : Bracket
  brace : Bracket
  body : Bracket

pub data Effect : Type 0 where
  opens : Bracket → Effect
  closes : Bracket → Effect
  semicolon : Effect
  pragma_line : Effect
  none : Effect

abbrev pub brace_after : Bool → Bracket
brace_after true = body
brace_after false = brace

abbrev pub mark_effect : Bool → Mark → Effect
mark_effect after mark.OpenParen = opens round
mark_effect after mark.OpenBracket = opens square
mark_effect after mark.OpenBrace = opens (brace_after after)
mark_effect after mark.CloseParen = closes round
mark_effect after mark.CloseBracket = closes square
mark_effect after mark.CloseBrace = closes brace
mark_effect after mark.Semicolon = semicolon
mark_effect after _ = none

-- `after`: the terminal before is a `)`
abbrev pub effect : Bool → Sign → Effect
effect after (sign.Mark m) = mark_effect after m
effect after (sign.Cle p) = pragma_line
effect after _ = none

abbrev pub is_partner : Bracket → Bracket → Bool
is_partner round round = true
is_partner square square = true
is_partner brace brace = true
is_partner body brace = true
is_partner _ _ = false

-- the open brackets behind a terminal, the innermost first; one that matches no open bracket closes all
abbrev pub open_after : List Bracket → Effect → List Bracket
open_after bs (opens b) = b ∷ bs
open_after [] (closes c) = []
open_after (b ∷ bs) (closes c) = if is_partner b c then bs else []
open_after bs _ = bs

abbrev pub is_body_bracket : Bracket → Bool
is_body_bracket body = true
is_body_bracket _ = false

-- Does the terminal end its item?
abbrev pub ends_item : List Bracket → Effect → Bool
ends_item [] (closes c) = true
ends_item (b ∷ bs) (closes c) = not (is_partner b c) || (is_body_bracket b && is_empty bs)
ends_item [] semicolon = true
ends_item [] pragma_line = true
ends_item _ _ = false

abbrev pub is_close : Sign → Bool
is_close (sign.Mark mark.CloseParen) = true
is_close _ = false

abbrev pub is_pragma_first : List Terminal → Bool
is_pragma_first [] = false
is_pragma_first (p ∷ ps) = is_pragma_sign p.what
  where
    is_pragma_sign : Sign → Bool
    is_pragma_sign (sign.Cle p) = true
    is_pragma_sign _ = false

-- also where a pragma line outside brackets follows
abbrev pub ends_here : List Bracket → Effect → List Terminal → Bool
ends_here bs e next = ends_item bs e || (is_empty (open_after bs e) && is_pragma_first next)

-- A terminal is its item's last, or belongs to the item of the next.
abbrev pub joined : Bool → Terminal → List (List Terminal) → List (List Terminal)
joined true p items = (p ∷ []) ∷ items
joined false p [] = (p ∷ []) ∷ []
joined false p (i ∷ items) = (p ∷ i) ∷ items

unfoldable pub cut_from : List Bracket → Bool → List Terminal → List (List Terminal)
cut_from bs after [] = []
cut_from bs after (p ∷ ps) = joined (ends_here bs (effect after p.what) ps) p (cut_from (open_after bs (effect after p.what)) (is_close p.what) ps)

-- The terminals of each item.
unfoldable pub cut : List Terminal → List (List Terminal)
cut ps = cut_from [] false ps
