-- The words that are no names, the spellings of types, and what can come out of a source.
use Rattle.std.specs.Prelude.{ℕ, ◌^◌, ◌-◌, List, [], ◌∷◌, length, slice_index, map, Option, Some, None, is_none, Bool, true, false, not, ◌&&◌, ◌||◌, nat_lt, if◌then◌else◌, bytes_eq, codes}
use Rattle.std.specs.List.{list_all}
use Rattle.cl_tree.specs.Letters.{is_blank, is_on_line, is_name}
use Rattle.cl_tree.specs.declared.kinds.IntKind.{IntKind}
use Rattle.cl_tree.specs.declared.kinds.IntKind.TheVariants.{I8, U8, I16, U16, I32, U32, Long, ULong, LLong, ULLong}
use Rattle.cl_tree.specs.declared.token.Pragma.{Pragma}
use Rattle.cl_tree.specs.declared.token.Pragma.TheVariants as pragma
use Rattle.cl_tree.specs.declared.grammar.Keyword.{Keyword}
use Rattle.cl_tree.specs.declared.grammar.Sign.{Sign}
use Rattle.cl_tree.specs.declared.grammar.Sign.TheVariants as sign
use Rattle.cl_tree.specs.declared.grammar.TheConstants.{KEYWORDS, TYPE_KEYWORDS, FIXED_WIDTHS, KINDS, REALS}

-- a name, or a text, by its bytes
abbrev pub Word : Type 0
Word = List ℕ

-- what a table has first under a word
abbrev pub entry : {A : Type 0} → List (Word × A) → Word → Option A
entry [] word = None
entry (row ∷ rows) word = if bytes_eq row.0 word then Some row.1 else entry rows word

abbrev pub listed : List Word → Word → Bool
listed [] word = false
listed (w ∷ ws) word = bytes_eq w word || listed ws word

unfoldable pub keyword : Word → Option Keyword
keyword = entry (map (λ row. (row.0.now, row.1)) KEYWORDS)

unfoldable pub is_type_keyword : Word → Bool
is_type_keyword = listed (map (λ w. w.now) TYPE_KEYWORDS)

unfoldable pub is_fixed_width : Word → Bool
is_fixed_width = listed (map (λ w. w.now) FIXED_WIDTHS)

unfoldable pub is_type_word : Word → Bool
is_type_word word = is_type_keyword word || is_fixed_width word

-- one of the keywords of C11 6.4.1
unfoldable pub is_keyword : Word → Bool
is_keyword word = not (is_none (keyword word)) || is_type_keyword word

-- the kind that a run of type words spells, given with one space between two words
unfoldable pub kind_of : Word → Option IntKind
kind_of = entry (map (λ row. (row.0.now, row.1)) KINDS)

unfoldable pub is_real : Word → Bool
is_real = listed (map (λ w. w.now) REALS)

abbrev pub spelled_kind : Option IntKind → Bool → Sign
spelled_kind (Some kind) real = sign.Kind kind
spelled_kind None true = sign.Real
spelled_kind None false = sign.NoType

unfoldable pub spelled_type : Word → Sign
spelled_type text = spelled_kind (kind_of text) (is_real text)

abbrev pub named : Word → Option Keyword → Sign
named word (Some k) = sign.Key k
named word None = sign.Name word

unfoldable pub spelled_word : Word → Sign
spelled_word word = named word (keyword word)

-- ---- what a source can bring

-- neither a keyword nor a type word
unfoldable pub is_free : Word → Bool
is_free word = is_none (keyword word) && not (is_type_word word)

-- literals have a kind from `int` up; how many of its values a literal can have
abbrev pub literals : IntKind → ℕ
literals I8 = 0
literals U8 = 0
literals I16 = 0
literals U16 = 0
literals I32 = 2 ^ 31
literals U32 = 2 ^ 32
literals Long = 2 ^ 63
literals ULong = 2 ^ 64
literals LLong = 2 ^ 63
literals ULLong = 2 ^ 64

unfoldable pub is_literal : ℕ → IntKind → Bool
is_literal value kind = nat_lt value (literals kind)

-- the text of a `def` line is not empty and has no blanks at its ends
unfoldable pub is_definition : Word → Bool
is_definition text = nat_lt 0 (length text) && not (is_blank (slice_index text 0)) && not (is_blank (slice_index text (length text - 1))) && list_all is_on_line text

-- a word that has a meaning of its own behind `#pragma cle`
unfoldable pub is_cle_word : Word → Bool
is_cle_word word = bytes_eq (codes "def") word || (bytes_eq (codes "begin") word || bytes_eq (codes "end") word)

-- a line `#pragma cle` gives it; its name may be a keyword
unfoldable pub is_pragma : Pragma → Bool
is_pragma (pragma.Def name text) = is_name name && is_definition text
is_pragma (pragma.Begin name) = is_name name
is_pragma (pragma.End name) = is_name name
is_pragma (pragma.Next name) = is_name name && not (is_cle_word name)

unfoldable pub is_byte : ℕ → Bool
is_byte b = nat_lt b 256

-- A source can bring it.
unfoldable pub comes : Sign → Bool
comes (sign.Name name) = is_name name && is_free name
comes (sign.Integer value kind) = is_literal value kind
comes (sign.Letter byte) = is_byte byte
comes (sign.Text bytes) = list_all is_byte bytes
comes (sign.Cle p) = is_pragma p
comes _ = true
