-- What the tokens of a source are can come.
use Rattle.std.proofs.Common.{◌≡◌, ℕ, ◌+◌, Bool, true, false, not, ◌&&◌, cond, List, [], ◌∷◌, ◌++◌, Option, Some, None, length, refl, sym, ap, ◌∙◌, arith}
use Rattle.std.specs.Prelude.{bytes_eq}
use Rattle.std.specs.List.{list_all}
use Rattle.std.proofs.lemmas.List.Folds.{list_all-append}
use Rattle.std.proofs.lemmas.Bool.{false≢true}
use Rattle.cl_tree.specs.declared.kinds.IntKind.{IntKind}
use Rattle.cl_tree.specs.declared.token.Token.{Token}
use Rattle.cl_tree.specs.declared.token.Mark as punctuator
use Rattle.cl_tree.specs.declared.token.Lexeme.{Lexeme}
use Rattle.cl_tree.specs.declared.token.Lexeme.TheVariants.{Word, Integer, Floating, Text, Mark, Cle}
use Rattle.cl_tree.specs.declared.token.Lexeme.TheVariants as lexeme
use Rattle.cl_tree.specs.declared.pieces.Run.TheVariants.{Letters, Digits, Line, Directive}
use Rattle.cl_tree.specs.declared.pieces.Closed.TheVariants.{Comment, Quoted, Letter}
use Rattle.cl_tree.specs.declared.pieces.Opening.{Opening}
use Rattle.cl_tree.specs.declared.pieces.Opening.TheVariants.{Runs, Closes, Space, Punct, Other}
use Rattle.cl_tree.specs.declared.pieces.Literal.{Literal}
use Rattle.cl_tree.specs.declared.pieces.Literal.TheVariants.{Number, Byte}
use Rattle.cl_tree.specs.declared.pieces.LiteralValue.{LiteralValue}
use Rattle.cl_tree.specs.declared.pieces.LiteralValue.TheVariants.{Wrong, Unfit, Holds}
use Rattle.cl_tree.specs.declared.pieces.PieceMeaning.{PieceMeaning}
use Rattle.cl_tree.specs.declared.pieces.PieceMeaning.TheVariants.{Blank, Bad, Is, Defines}
use Rattle.cl_tree.specs.declared.pieces.Place.{Place}
use Rattle.cl_tree.specs.declared.pieces.Rule.TheVariants.{E07}
use Rattle.cl_tree.specs.declared.grammar.Keyword.{Keyword}
use Rattle.cl_tree.specs.Joins.{bytes_of, places_of}
use Rattle.cl_tree.specs.Letters.{is_newline, is_name, is_letter, is_word}
use Rattle.cl_tree.specs.Pieces.{go, by_state, runs, opening, shape, is_piece, mark}
use Rattle.cl_tree.specs.Literals.{integer, letter, inside}
use Rattle.cl_tree.specs.Words.{keyword, kind_of, is_real, is_type_word, is_free, is_byte, named, spelled_word, spelled_kind, spelled_type, comes}
use Rattle.cl_tree.specs.Runs.{is_type, word_of, more_words, single, terminal, terminals_from, terminals}
use Rattle.cl_tree.specs.Tokens.{Definitions, Before, at_start, behind, literal_meaning, number_meaning, string_as, string_meaning, mark_as, meaning_as, piece_meaning, definitions_after, IsCut, meant, replaced, token_as, tokens_from, text_of, both_text, glued, joined_behind, joined}
use Rattle.cl_lex.specs.Laws.{BringsOnly}
use Rattle.cl_lex.proofs.Shapes.{directive_line}
use Rattle.cl_literals.proofs.Tests.{and_left, and_right, by_test}
use Rattle.cl_lex.proofs.Words.{piece_is, opening_letter, runs_words}
use Rattle.cl_lex.proofs.BroughtValues.{both, ValueComes, integer_comes, letter_comes, BytesCome, unescaped_come}
use Rattle.cl_lex.proofs.BroughtLines.{lexeme_comes, LiteralComes, MeaningComes, blank, bad, is_lexeme, allowed_comes, directive_comes}

-- what a piece means

line_step : (b : ℕ) (bs : List ℕ) (t : Bool) → is_newline b ≡ t → by_state (λ s. runs Directive s bs) false (cond t None (Some b)) ≡ true → (runs Directive b bs ≡ true → list_all (λ c. not (is_newline c)) bs ≡ true) → (not (is_newline b) && list_all (λ c. not (is_newline c)) bs) ≡ true
line_step b bs true e h k = absurd (false≢true h)
line_step b bs false e h k = rw e (k h)

runs_lines : (a : ℕ) (bs : List ℕ) → runs Directive a bs ≡ true → list_all (λ c. not (is_newline c)) bs ≡ true
unfolding go
runs_lines a [] h = refl
runs_lines a (b ∷ bs) h = line_step b bs (is_newline b) refl h (λ r. runs_lines b bs r)

shape_of : (f : Bool) (b : ℕ) (bs : List ℕ) (o : Opening) → is_piece f (b ∷ bs) ≡ true → opening f (b ∷ bs) ≡ o → shape o (b ∷ bs) ≡ true
shape_of f b bs o e q = sym (piece_is f (b ∷ bs) (omega arith) ∙ ap (λ x. shape x (b ∷ bs)) q) ∙ e

directive_lines : (f : Bool) (p : List ℕ) → is_piece f p ≡ true → opening f p ≡ Runs Directive → list_all (λ c. not (is_newline c)) p ≡ true
unfolding is_piece shape
directive_lines f [] e o = absurd (false≢true e)
directive_lines f (b ∷ bs) e o = both (not (is_newline b)) _ (ap not (directive_line f b _ o)) (runs_lines b bs (shape_of f b bs (Runs Directive) e o))

name_letters : (f : Bool) (p : List ℕ) → is_piece f p ≡ true → opening f p ≡ Runs Letters → is_name p ≡ true
unfolding is_piece shape is_name
name_letters f [] e o = absurd (false≢true e)
name_letters f (b ∷ bs) e o = both (is_letter b) (list_all is_word bs) (opening_letter f b _ o) (runs_words b bs (shape_of f b bs (Runs Letters) e o))

value_meaning : (v : LiteralValue) → ValueComes v → MeaningComes (literal_meaning v)
unfolding ValueComes
value_meaning Wrong h = bad E07 0
value_meaning Unfit h = bad E07 0
value_meaning (Holds (Number v k)) h = is_lexeme (Integer v k) h
value_meaning (Holds (Byte b)) h = is_lexeme (lexeme.Letter b) h

number_comes : (p : List ℕ) → MeaningComes (number_meaning p)
unfolding number_meaning
number_comes p = by_test MeaningComes _ (Is Floating) _ (is_lexeme Floating refl) (value_meaning (integer p) (integer_comes p))

bytes_meaning : (x : Option (List ℕ)) → BytesCome x → MeaningComes (string_as x)
unfolding BytesCome
bytes_meaning None h = bad E07 0
bytes_meaning (Some bytes) h = is_lexeme (Text bytes) h

string_comes : (p : List ℕ) → MeaningComes (string_meaning p)
unfolding string_meaning
string_comes p = bytes_meaning _ (unescaped_come 0 [] (inside p) refl)

mark_comes : (x : Option punctuator.Mark) → MeaningComes (mark_as x)
mark_comes None = blank
mark_comes (Some m) = is_lexeme (Mark m) refl

meaning_by : (f : Bool) (p : List ℕ) (o : Opening) → is_piece f p ≡ true → opening f p ≡ o → MeaningComes (meaning_as o p)
meaning_by f p (Runs Letters) e o = is_lexeme (Word p) (name_letters f p e o)
meaning_by f p (Runs Digits) e o = number_comes p
meaning_by f p (Runs Line) e o = blank
meaning_by f p (Runs Directive) e o = directive_comes p (directive_lines f p e o)
meaning_by f p (Closes Comment) e o = blank
meaning_by f p (Closes Quoted) e o = allowed_comes p _ (λ good. string_comes p)
meaning_by f p (Closes Letter) e o = allowed_comes p _ (λ good. value_meaning (letter p) (letter_comes p))
meaning_by f p Space e o = blank
meaning_by f p Punct e o = mark_comes (mark p)
meaning_by f p Other e o = blank

meaning_comes : (f : Bool) (p : List ℕ) → is_piece f p ≡ true → MeaningComes (piece_meaning f p)
unfolding piece_meaning
meaning_comes f p e = meaning_by f p (opening f p) e refl

-- tokens

abbrev DefinitionsCome : Definitions → Type 0
DefinitionsCome m = (q : List ℕ) → LiteralComes (m q)

abbrev all_come : List Token → Bool
all_come ts = list_all (λ t. lexeme_comes t.what) ts

definitions_come : (m : Definitions) (x : PieceMeaning) → DefinitionsCome m → MeaningComes x → DefinitionsCome (definitions_after m x)
unfolding MeaningComes
definitions_come m Blank d h = d
definitions_come m (Bad rule i) d h = d
definitions_come m (Is l) d h = d
definitions_come m (Defines name None at) d h = d
definitions_come m (Defines name (Some l) at) d h = λ q. by_test LiteralComes (bytes_eq name q) (Some l) (m q) h (d q)

meant_comes : (x : Option Literal) (name : List ℕ) → LiteralComes x → is_name name ≡ true → lexeme_comes (meant x name) ≡ true
meant_comes None name d h = h
meant_comes (Some (Number v k)) name d h = d
meant_comes (Some (Byte b)) name d h = d

replaced_comes : (m : Definitions) (l : Lexeme) → DefinitionsCome m → lexeme_comes l ≡ true → lexeme_comes (replaced m l) ≡ true
replaced_comes m (Word name) d h = meant_comes (m name) name (d name) h
replaced_comes m (Integer v k) d h = h
replaced_comes m Floating d h = h
replaced_comes m (lexeme.Letter b) d h = h
replaced_comes m (Text bytes) d h = h
replaced_comes m (Mark mark) d h = h
replaced_comes m (Cle pragma) d h = h

token_comes : (m : Definitions) (x : PieceMeaning) (places : List Place) (at n : ℕ) → DefinitionsCome m → MeaningComes x → all_come (token_as m x places at n) ≡ true
unfolding MeaningComes
token_comes m Blank places at n d h = refl
token_comes m (Bad rule i) places at n d h = refl
token_comes m (Is what) places at n d h = both (lexeme_comes (replaced m what)) true (replaced_comes m what d h) refl
token_comes m (Defines name l i) places at n d h = refl

tokens_come : (places : List Place) (s : Before) (at : ℕ) (ps : List (List ℕ)) (text rest : List ℕ) (last : Before) → DefinitionsCome s.definitions → IsCut s ps text last rest → all_come (tokens_from places s at ps) ≡ true
unfolding behind
tokens_come places s at [] text rest last d c = refl
tokens_come places s at (p ∷ ps) text rest last d c =
    let m = meaning_comes s.fresh p c.0.piece in
    list_all-append (λ (t : Token). lexeme_comes t.what) (token_as s.definitions (piece_meaning s.fresh p) places at (length p)) _
    ∙ both _ _ (token_comes s.definitions (piece_meaning s.fresh p) places at (length p) d m) (tokens_come places (behind s p) (at + length p) ps c.2 rest last (definitions_come s.definitions (piece_meaning s.fresh p) d m) c.4)

-- joined strings

text_comes : (l : Lexeme) → lexeme_comes l ≡ true → list_all is_byte (text_of l) ≡ true
text_comes (Word name) h = refl
text_comes (Integer v k) h = refl
text_comes Floating h = refl
text_comes (lexeme.Letter b) h = refl
text_comes (Text bytes) h = h
text_comes (Mark mark) h = refl
text_comes (Cle pragma) h = refl

glued_comes : (u t : Token) → lexeme_comes u.what ≡ true → lexeme_comes t.what ≡ true → lexeme_comes (glued u t).what ≡ true
glued_comes u t a b = list_all-append is_byte (text_of u.what) (text_of t.what) ∙ both _ _ (text_comes u.what a) (text_comes t.what b)

behind_come : (u : Token) (ts : List Token) → lexeme_comes u.what ≡ true → all_come ts ≡ true → all_come (joined_behind u ts) ≡ true
behind_come u [] h a = both (lexeme_comes u.what) true h refl
behind_come u (t ∷ ts) h a =
    let first = and_left (lexeme_comes t.what) (all_come ts) a in
    let rest = and_right (lexeme_comes t.what) (all_come ts) a in
    by_test (λ us. all_come us ≡ true) (both_text u.what t.what) _ _ (behind_come (glued u t) ts (glued_comes u t h first) rest) (both (lexeme_comes u.what) _ h (behind_come t ts first rest))

joined_come : (ts : List Token) → all_come ts ≡ true → all_come (joined ts) ≡ true
joined_come [] a = refl
joined_come (t ∷ ts) a = behind_come t ts (and_left (lexeme_comes t.what) (all_come ts) a) (and_right (lexeme_comes t.what) (all_come ts) a)

-- signs

named_comes : (w : List ℕ) (x : Option Keyword) → keyword w ≡ x → is_type_word w ≡ false → is_name w ≡ true → comes (named w x) ≡ true
unfolding comes is_free
named_comes w (Some k) q e h = refl
named_comes w None q e h = both (is_name w) _ h (rw (q, e) refl)

single_comes : (l : Lexeme) → is_type l ≡ false → lexeme_comes l ≡ true → comes (single l) ≡ true
unfolding comes spelled_word
single_comes (Word w) e h = named_comes w (keyword w) refl e h
single_comes (Integer v k) e h = h
single_comes Floating e h = refl
single_comes (lexeme.Letter b) e h = h
single_comes (Text bytes) e h = h
single_comes (Mark mark) e h = refl
single_comes (Cle pragma) e h = h

kind_comes : (x : Option IntKind) (real : Bool) → comes (spelled_kind x real) ≡ true
unfolding comes
kind_comes (Some k) real = refl
kind_comes None true = refl
kind_comes None false = refl

type_comes : (text : List ℕ) → comes (spelled_type text) ≡ true
unfolding spelled_type
type_comes text = kind_comes (kind_of text) (is_real text)

signs_step : (within : Bool) (t : Token) (ts : List Token) (x : Bool) → is_type t.what ≡ x → lexeme_comes t.what ≡ true → ((w : Bool) → list_all (λ p. comes p.what) (terminals_from w ts) ≡ true) → list_all (λ p. comes p.what) (cond x (cond within (terminals_from true ts) (terminal t.line (spelled_type (word_of t.what ++ more_words ts)) ∷ terminals_from true ts)) (terminal t.line (single t.what) ∷ terminals_from false ts)) ≡ true
signs_step true t ts true e h r = r true
signs_step false t ts true e h r = both _ _ (type_comes (word_of t.what ++ more_words ts)) (r true)
signs_step within t ts false e h r = both (comes (single t.what)) _ (single_comes t.what e h) (r false)

signs_come : (within : Bool) (ts : List Token) → all_come ts ≡ true → list_all (λ p. comes p.what) (terminals_from within ts) ≡ true
unfolding terminals_from
signs_come within [] a = refl
signs_come within (t ∷ ts) a = signs_step within t ts (is_type t.what) refl (and_left (lexeme_comes t.what) (all_come ts) a) (λ w. signs_come w ts (and_right (lexeme_comes t.what) (all_come ts) a))

none_defined : DefinitionsCome at_start.definitions
unfolding at_start
none_defined = λ q. tt

pub brought : (source : List ℕ) → BringsOnly source
unfolding terminals
brought source ts a =
    let cut = tokens_from (places_of source) at_start 0 a.pieces in
    signs_come false ts (ap all_come a.tokens ∙ joined_come cut (tokens_come (places_of source) at_start 0 a.pieces (bytes_of source) [] a.last none_defined a.cut))
