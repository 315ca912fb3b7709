-- Directive lines mean what a source can bring.
use Rattle.std.proofs.Common.{◌≡◌, ℕ, suc, ◌+◌, ◌-◌, ◌<◌, Bool, true, false, not, ◌&&◌, cond, List, [], ◌∷◌, Option, Some, None, length, reverse, take, drop, get_or, refl, sym, ap, ◌∙◌, arith}
use Rattle.std.specs.Prelude.{nat_lt}
use Rattle.std.specs.List.{list_all, prefix_len, suffix_len, position, position_from}
use Rattle.std.proofs.lemmas.List.{get_or-drop, get_or-reverse, get_or-take, drop-drop, length-drop, take-append-drop, length-reverse, length-take-le}
use Rattle.std.proofs.lemmas.List.Folds.{list_all-append}
use Rattle.std.proofs.lemmas.List.Sums.{prefix_len_stops, suffix_len-le-length}
use Rattle.std.proofs.lemmas.Iterator.Adapters.{position_from-zero}
use Rattle.std.proofs.lemmas.Bool.{cond_both, false≢true, lt-ltb}
use Rattle.std.proofs.lemmas.Bool.Decides.{nat_tests}
use Rattle.cl_tree.specs.declared.token.Lexeme.{Lexeme}
use Rattle.cl_tree.specs.declared.token.Lexeme.TheVariants.{Word, Integer, Floating, Text, Mark, Cle}
use Rattle.cl_tree.specs.declared.token.Lexeme.TheVariants as lexeme
use Rattle.cl_tree.specs.declared.token.Pragma.{Pragma}
use Rattle.cl_tree.specs.declared.token.Pragma.TheVariants.{Begin, End, Next}
use Rattle.cl_tree.specs.declared.pieces.Rule.{Rule}
use Rattle.cl_tree.specs.declared.pieces.Rule.TheVariants.{E02, E05}
use Rattle.cl_tree.specs.declared.pieces.Literal.{Literal}
use Rattle.cl_tree.specs.declared.pieces.LiteralValue.{LiteralValue}
use Rattle.cl_tree.specs.declared.pieces.LiteralValue.TheVariants.{Wrong, Unfit, Holds}
use Rattle.cl_tree.specs.declared.pieces.PieceMeaning.{PieceMeaning}
use Rattle.cl_tree.specs.declared.pieces.PieceMeaning.TheVariants.{Blank, Bad, Is, Defines}
use Rattle.cl_tree.specs.declared.pieces.Part.TheVariants.{Code}
use Rattle.cl_tree.specs.Letters.{is_blank, is_on_line, is_newline, is_bad, is_letter, is_word, is_name}
use Rattle.cl_tree.specs.Words.{is_literal, is_byte, is_definition, is_cle_word, is_pragma}
use Rattle.cl_tree.specs.Directives.{blanked, behind_blanks, trimmed, word_len, word, behind_word, has_word, behind_words, allowed_as, allowed, header, defined_as, name_and_literal, cle_if, cle, other_pragma, form, behind_hash, by_blanked, is_def, def_line, directive}
use Rattle.cl_literals.proofs.Tests.{and_left, and_right, by_test}
use Rattle.cl_literals.proofs.Words.{front_words}
use Rattle.cl_lex.proofs.Words.{letter_word}
use Rattle.cl_lex.proofs.BroughtValues.{both, literal_comes, ValueComes, literal_value_comes}

abbrev pub lexeme_comes : Lexeme → Bool
lexeme_comes (Word w) = is_name w
lexeme_comes (Integer v k) = is_literal v k
lexeme_comes Floating = true
lexeme_comes (lexeme.Letter b) = is_byte b
lexeme_comes (Text bytes) = list_all is_byte bytes
lexeme_comes (Mark m) = true
lexeme_comes (Cle p) = is_pragma p

abbrev pub LiteralComes : Option Literal → Type 0
LiteralComes None = Unit {0}
LiteralComes (Some l) = literal_comes l ≡ true

unfoldable pub MeaningComes : PieceMeaning → Type 0
MeaningComes Blank = Unit {0}
MeaningComes (Bad rule i) = Unit {0}
MeaningComes (Is l) = lexeme_comes l ≡ true
MeaningComes (Defines name l at) = LiteralComes l

pub blank : MeaningComes Blank
unfolding MeaningComes
blank = tt

pub bad : (rule : Rule) (i : ℕ) → MeaningComes (Bad rule i)
unfolding MeaningComes
bad rule i = tt

pub is_lexeme : (l : Lexeme) → lexeme_comes l ≡ true → MeaningComes (Is l)
unfolding MeaningComes
is_lexeme l h = h

defines : (name : List ℕ) (l : Option Literal) (at : ℕ) → LiteralComes l → MeaningComes (Defines name l at)
unfolding MeaningComes
defines name l at h = h

allowed_known : (x : Option ℕ) (m : PieceMeaning) → (x ≡ None → MeaningComes m) → MeaningComes (allowed_as x m)
allowed_known None m f = f refl
allowed_known (Some i) m f = bad E02 i

pub allowed_comes : (xs : List ℕ) (m : PieceMeaning) → (position is_bad xs ≡ None → MeaningComes m) → MeaningComes (allowed xs m)
unfolding allowed
allowed_comes xs m f = allowed_known (position is_bad xs) m f

-- names

no_word : has_word [] ≡ false
unfolding has_word word_len is_letter
no_word = refl

word_step : (b : ℕ) (bs : List ℕ) (t : Bool) → is_letter b ≡ t → nat_lt 0 (cond t (prefix_len is_word (b ∷ bs)) 0) ≡ true → is_name (take (cond t (prefix_len is_word (b ∷ bs)) 0) (b ∷ bs)) ≡ true
unfolding is_name
word_step b bs true e h =
    let s : 1 + prefix_len is_word bs ≡ suc (prefix_len is_word bs) = omega arith in
    rw (letter_word b e, s) (both (is_letter b) _ e (front_words bs))
word_step b bs false e h = absurd (false≢true h)

pub word_name : (xs : List ℕ) → has_word xs ≡ true → is_name (word xs) ≡ true
unfolding has_word word word_len
word_name [] h = absurd (false≢true (sym no_word ∙ h))
word_name (b ∷ bs) h = word_step b bs (is_letter b) refl h

name_step : (b : ℕ) (bs : List ℕ) → is_letter b ≡ true → nat_lt 0 (cond (is_letter b) (prefix_len is_word (b ∷ bs)) 0) ≡ true
name_step b bs e = rw (e, letter_word b e) (lt-ltb 0 (1 + prefix_len is_word bs) (omega arith))

pub name_word : (xs : List ℕ) → is_name xs ≡ true → has_word xs ≡ true
unfolding has_word word_len is_name
name_word [] h = absurd (false≢true h)
name_word (b ∷ bs) h = name_step b bs (and_left (is_letter b) (list_all is_word bs) h)

-- the forms but for `def`

header_comes : (xs : List ℕ) → MeaningComes (header xs)
unfolding header
header_comes xs = by_test MeaningComes _ Blank (Bad E05 0) blank (bad E05 0)

defined_comes : (name : List ℕ) (at : ℕ) (v : LiteralValue) → ValueComes v → MeaningComes (defined_as name at v)
unfolding ValueComes
defined_comes name at Wrong h = bad E05 0
defined_comes name at Unfit h = defines name None at tt
defined_comes name at (Holds l) h = defines name (Some l) at h

literal_form_comes : (n : ℕ) (xs : List ℕ) → MeaningComes (name_and_literal n xs)
unfolding name_and_literal
literal_form_comes n xs = by_test MeaningComes _ _ (Bad E05 0) (defined_comes _ _ _ (literal_value_comes _)) (bad E05 0)

cle_if_comes : (t : Bool) (p : Pragma) → (t ≡ true → is_pragma p ≡ true) → MeaningComes (cle_if t p)
unfolding cle_if
cle_if_comes t p f = cond_both t (Is (Cle p)) (Bad E05 0) MeaningComes (λ e. is_lexeme (Cle p) (f e)) (λ e. bad E05 0)

cle_comes : (xs : List ℕ) → MeaningComes (cle xs)
unfolding cle is_pragma
cle_comes xs =
    by_test MeaningComes _ _ _ (cle_if_comes _ (Begin (word (behind_word xs))) (λ e. word_name _ (name_word _ e)))
    (by_test MeaningComes _ _ _ (cle_if_comes _ (End (word (behind_word xs))) (λ e. word_name _ (name_word _ e)))
    (cle_if_comes (is_name xs && not (is_cle_word (word xs))) (Next (word xs)) (λ e. both (is_name (word xs)) _ (word_name xs (name_word xs (and_left (is_name xs) _ e))) (and_right (is_name xs) _ e))))

other_comes : (line xs : List ℕ) → MeaningComes (other_pragma line xs)
unfolding other_pragma
other_comes line xs = by_test MeaningComes _ _ (Bad E05 0) (allowed_comes line Blank (λ e. blank)) (bad E05 0)

form_comes : (line xs : List ℕ) → MeaningComes (form line xs)
unfolding form
form_comes line xs = by_test MeaningComes _ _ _ (header_comes _) (by_test MeaningComes _ _ _ (literal_form_comes _ _) (by_test MeaningComes _ _ _ (cle_comes _) (by_test MeaningComes _ _ _ (other_comes line _) (bad E05 0))))

blanked_comes : (x : Option (List ℕ)) → MeaningComes (by_blanked x)
blanked_comes None = bad E05 0
blanked_comes (Some line) = form_comes _ _

-- the text of a `def` line

all_drop : (t : ℕ → Bool) (k : ℕ) (xs : List ℕ) → list_all t xs ≡ true → list_all t (drop k xs) ≡ true
all_drop t k xs h = and_right (list_all t (take k xs)) (list_all t (drop k xs)) (sym (list_all-append t (take k xs) (drop k xs)) ∙ ap (list_all t) (take-append-drop k xs) ∙ h)

all_take : (t : ℕ → Bool) (k : ℕ) (xs : List ℕ) → list_all t xs ≡ true → list_all t (take k xs) ≡ true
all_take t k xs h = and_left (list_all t (take k xs)) (list_all t (drop k xs)) (sym (list_all-append t (take k xs) (drop k xs)) ∙ ap (list_all t) (take-append-drop k xs) ∙ h)

good_byte : (b : ℕ) → is_bad b ≡ false → not (is_newline b) ≡ true → is_on_line b ≡ true
unfolding is_bad
good_byte b e n = grind (arith, nat_tests)

not_here : (t : ℕ → Bool) (b : ℕ) (i : ℕ) (x : Bool) (rest : Option ℕ) → t b ≡ x → cond x (Some i) rest ≡ None → (t b ≡ false) × (rest ≡ None)
not_here t b i true rest e h = absurd cc
not_here t b i false rest e h = (e, h)

all_good : (i : ℕ) (xs : List ℕ) → position_from is_bad i xs ≡ None → list_all (λ b. not (is_newline b)) xs ≡ true → list_all is_on_line xs ≡ true
all_good i [] e n = refl
all_good i (b ∷ bs) e n =
    let h = not_here is_bad b i (is_bad b) _ refl e in
    both (is_on_line b) (list_all is_on_line bs) (good_byte b h.0 (and_left (not (is_newline b)) (list_all (λ c. not (is_newline c)) bs) n)) (all_good (i + 1) bs h.1 (and_right (not (is_newline b)) (list_all (λ c. not (is_newline c)) bs) n))

-- a rest of a line
abbrev IsRest : List ℕ → List ℕ → Type 0
IsRest xs line = (k : ℕ) × (xs ≡ drop k line)

rest_drop : (n : ℕ) (xs line : List ℕ) → IsRest xs line → IsRest (drop n xs) line
rest_drop n xs line r = (r.0 + n, ap (drop n) r.1 ∙ drop-drop n r.0 line)

blanks_rest : (xs line : List ℕ) → IsRest xs line → IsRest (behind_blanks xs) line
unfolding behind_blanks
blanks_rest xs line r = rest_drop _ xs line r

word_rest : (xs line : List ℕ) → IsRest xs line → IsRest (behind_word xs) line
unfolding behind_word
word_rest xs line r = blanks_rest _ line (rest_drop _ xs line r)

hash_rest : (line : List ℕ) → IsRest (behind_hash line) line
unfolding behind_hash
hash_rest line = blanks_rest (drop 1 line) line (1, refl)

first_good : (xs : List ℕ) → 0 < length (behind_blanks xs) → is_blank (get_or (behind_blanks xs) 0 0) ≡ false
unfolding behind_blanks
first_good xs h =
    let l : length (drop (prefix_len is_blank xs) xs) ≡ length xs - prefix_len is_blank xs = length-drop (prefix_len is_blank xs) xs in
    let z : prefix_len is_blank xs + 0 ≡ prefix_len is_blank xs = omega arith in
    ap is_blank (get_or-drop (prefix_len is_blank xs) xs 0 0 ∙ ap (λ n. get_or xs n 0) z) ∙ prefix_len_stops is_blank xs 0 (omega arith)

first_behind : (xs : List ℕ) → 0 < length (behind_word xs) → is_blank (get_or (behind_word xs) 0 0) ≡ false
unfolding behind_word
first_behind xs h = first_good (drop (word_len xs) xs) h

last_good : (p : List ℕ) → 0 < length (trimmed p) → is_blank (get_or (trimmed p) (length (trimmed p) - 1) 0) ≡ false
unfolding trimmed
last_good p h =
    let s = suffix_len-le-length is_blank p in
    let l : length (take (length p - suffix_len is_blank p) p) ≡ length p - suffix_len is_blank p = length-take-le (length p - suffix_len is_blank p) p (omega arith) in
    let r : length (reverse p) ≡ length p = length-reverse p in
    let stop : is_blank (get_or (reverse p) (prefix_len is_blank (reverse p)) 0) ≡ false = prefix_len_stops is_blank (reverse p) 0 (omega arith) in
    let at : get_or (reverse p) (suffix_len is_blank p) 0 ≡ get_or p (length p - 1 - suffix_len is_blank p) 0 = get_or-reverse p (suffix_len is_blank p) 0 (omega arith) in
    let n : length (take (length p - suffix_len is_blank p) p) - 1 ≡ length p - 1 - suffix_len is_blank p = omega arith in
    ap (λ k. is_blank (get_or (take (length p - suffix_len is_blank p) p) k 0)) n
    ∙ ap is_blank (get_or-take (length p - suffix_len is_blank p) p (length p - 1 - suffix_len is_blank p) 0 (omega arith))
    ∙ ap is_blank (sym at) ∙ stop

last_rest : (xs line : List ℕ) → IsRest xs line → 0 < length xs → (0 < length line) × (get_or xs (length xs - 1) 0 ≡ get_or line (length line - 1) 0)
last_rest xs line r h =
    let l : length xs ≡ length line - r.0 = ap length r.1 ∙ length-drop r.0 line in
    let n : r.0 + (length xs - 1) ≡ length line - 1 = omega arith in
    (omega arith, ap (λ ys. get_or ys (length xs - 1) 0) r.1 ∙ get_or-drop r.0 line (length xs - 1) 0 ∙ ap (λ k. get_or line k 0) n)

definition_is : (text : List ℕ) → 0 < length text → is_blank (get_or text 0 0) ≡ false → is_blank (get_or text (length text - 1) 0) ≡ false → list_all is_on_line text ≡ true → is_definition text ≡ true
unfolding is_definition
definition_is text h a b c = rw (lt-ltb 0 (length text) h, a, b, c) refl

text_comes : (p xs : List ℕ) → IsRest xs (trimmed p) → position is_bad (trimmed p) ≡ None → list_all (λ b. not (is_newline b)) (trimmed p) ≡ true → 0 < length (behind_word xs) → is_definition (behind_word xs) ≡ true
text_comes p xs r good lines h =
    let q = word_rest xs (trimmed p) r in
    let last = last_rest (behind_word xs) (trimmed p) q h in
    let all : list_all is_on_line (behind_word xs) ≡ true = ap (list_all is_on_line) q.1 ∙ all_drop is_on_line q.0 (trimmed p) (all_good 0 (trimmed p) (sym (position_from-zero is_bad (trimmed p)) ∙ good) lines) in
    definition_is (behind_word xs) h (first_behind xs h) (ap is_blank last.1 ∙ last_good p last.0) all

trimmed_lines : (p : List ℕ) → list_all (λ b. not (is_newline b)) p ≡ true → list_all (λ b. not (is_newline b)) (trimmed p) ≡ true
unfolding trimmed
trimmed_lines p h = all_take (λ b. not (is_newline b)) _ p h

positive : (n : ℕ) → nat_lt 0 n ≡ true → 0 < n
positive n e = grind (arith, nat_tests)

def_parts : (xs : List ℕ) → is_def xs ≡ true → (has_word (behind_words 3 xs) ≡ true) × (0 < length (behind_words 4 xs))
unfolding is_def
def_parts xs e = (and_right _ _ (and_left _ _ e), positive _ (and_right _ _ e))

def_comes : (p : List ℕ) → list_all (λ b. not (is_newline b)) p ≡ true → is_def (behind_hash (trimmed p)) ≡ true → MeaningComes (def_line (trimmed p) (behind_hash (trimmed p)))
unfolding def_line is_pragma
def_comes p n e =
    let line = trimmed p in
    let xs = behind_hash line in
    let parts = def_parts xs e in
    let third = word_rest _ line (word_rest _ line (word_rest xs line (hash_rest line))) in
    allowed_comes line _ (λ good. is_lexeme _ (both (is_name (word (behind_words 3 xs))) _ (word_name (behind_words 3 xs) parts.0) (text_comes p (behind_words 3 xs) third good (trimmed_lines p n) parts.1)))

pub directive_comes : (p : List ℕ) → list_all (λ b. not (is_newline b)) p ≡ true → MeaningComes (directive p)
unfolding directive
directive_comes p n = cond_both _ _ _ MeaningComes (def_comes p n) (λ e. blanked_comes (blanked Code [] p))
