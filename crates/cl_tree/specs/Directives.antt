-- What a directive line means. Its blanks are spaces, tabs, CR and comments.
use Rattle.std.specs.Prelude.{ℕ, zero, suc, ◌-◌, Bool, true, false, not, ◌&&◌, ◌||◌, ◌==◌, nat_lt, List, [], ◌∷◌, ◌++◌, Option, Some, None, length, take, drop, slice_index, bytes_eq, codes, if◌then◌else◌}
use Rattle.std.specs.List.{prefix_len, suffix_len, position}
use Prim.Native.Char.{code}
use Rattle.cl_tree.specs.declared.pieces.Part.{Part}
use Rattle.cl_tree.specs.declared.pieces.Part.TheVariants.{Code, Opened, Inside, ToEnd}
use Rattle.cl_tree.specs.declared.pieces.Rule.TheVariants.{E02, E05}
use Rattle.cl_tree.specs.declared.pieces.LiteralValue.{LiteralValue}
use Rattle.cl_tree.specs.declared.pieces.LiteralValue.TheVariants.{Wrong, Unfit, Holds}
use Rattle.cl_tree.specs.declared.pieces.PieceMeaning.{PieceMeaning}
use Rattle.cl_tree.specs.declared.pieces.PieceMeaning.TheVariants.{Blank, Bad, Is, Defines}
use Rattle.cl_tree.specs.declared.token.Lexeme.TheVariants.{Cle}
use Rattle.cl_tree.specs.declared.token.Pragma.{Pragma}
use Rattle.cl_tree.specs.declared.token.Pragma.TheVariants.{Def, Begin, End, Next}
use Rattle.cl_tree.specs.Letters.{is_bad, is_blank, is_letter, is_word, is_name}
use Rattle.cl_tree.specs.Literals.{literal}
use Rattle.cl_tree.specs.Words.{Word, is_keyword, is_cle_word, listed}

-- Comments become spaces, so that every other byte stays where it is.

-- the part of a line to which byte b leads, where c stands behind it (0 if nothing does)
unfoldable pub part_after : Part → ℕ → ℕ → Part
part_after Code b c = if (b == code "/") && (c == code "*") then Opened else (if (b == code "/") && (c == code "/") then ToEnd else Code)
part_after Opened b c = Inside false
part_after (Inside star) b c = if star && (b == code "/") then Code else Inside (b == code "*")
part_after ToEnd b c = ToEnd

abbrev pub is_code : Part → Bool
is_code Code = true
is_code Opened = false
is_code (Inside star) = false
is_code ToEnd = false

-- in a comment that has to be closed
abbrev pub is_open : Part → Bool
is_open Code = false
is_open Opened = true
is_open (Inside star) = true
is_open ToEnd = false

-- a byte that is in no comment stays
unfoldable pub shown : Part → Part → ℕ → ℕ
shown before after b = if is_code before && is_code after then b else code " "

-- the line behind what is done, its comments as spaces; None if a comment goes on behind its end
abbrev pub blanked : Part → List ℕ → List ℕ → Option (List ℕ)
blanked part done [] = if is_open part then None else Some done
blanked part done (b ∷ bs) = blanked (part_after part b (slice_index bs 0)) (done ++ shown part (part_after part b (slice_index bs 0)) b ∷ []) bs

-- Words and blanks.

unfoldable pub behind_blanks : List ℕ → List ℕ
behind_blanks xs = drop (prefix_len is_blank xs) xs

-- without the blanks at its end
unfoldable pub trimmed : List ℕ → List ℕ
trimmed xs = take (length xs - suffix_len is_blank xs) xs

-- the name that a text begins with, which is empty if it begins with none; and what stands behind it and the blanks there
unfoldable pub word_len : List ℕ → ℕ
word_len xs = if is_letter (slice_index xs 0) then prefix_len is_word xs else 0

unfoldable pub word : List ℕ → List ℕ
word xs = take (word_len xs) xs

unfoldable pub behind_word : List ℕ → List ℕ
behind_word xs = behind_blanks (drop (word_len xs) xs)

unfoldable pub has_word : List ℕ → Bool
has_word xs = nat_lt 0 (word_len xs)

-- the text begins with these words, with blanks between
abbrev pub begins_with : List Word → List ℕ → Bool
begins_with [] xs = true
begins_with (w ∷ []) xs = bytes_eq (word xs) w
begins_with (w ∷ v ∷ ws) xs = bytes_eq (word xs) w && begins_with (v ∷ ws) (behind_word xs)

-- what stands behind the first n words and the blanks there
abbrev pub behind_words : ℕ → List ℕ → List ℕ
behind_words zero xs = xs
behind_words (suc n) xs = behind_words n (behind_word xs)

-- What the parts of the forms mean. A form that lacks a part is none.

-- a byte that is not allowed, else what the text means
abbrev pub allowed_as : Option ℕ → PieceMeaning → PieceMeaning
allowed_as None found = found
allowed_as (Some i) found = Bad E02 i

unfoldable pub allowed : List ℕ → PieceMeaning → PieceMeaning
allowed xs found = allowed_as (position is_bad xs) found

abbrev pub headers : List Word
headers = codes "<stdio.h>" ∷ codes "<stdint.h>" ∷ codes "<stdlib.h>" ∷ []

unfoldable pub header : List ℕ → PieceMeaning
header xs = if listed headers xs then Blank else Bad E05 0

-- the literal stands at byte `at` of the line
abbrev pub defined_as : List ℕ → ℕ → LiteralValue → PieceMeaning
defined_as name at Wrong = Bad E05 0
defined_as name at Unfit = Defines name None at
defined_as name at (Holds l) = Defines name (Some l) at

-- a name that is no keyword, and a blank behind it
unfoldable pub can_be_defined : List ℕ → Bool
can_be_defined xs = has_word xs && not (is_keyword (word xs)) && is_blank (slice_index xs (word_len xs))

-- a name and a literal, with a blank between them, at the end of a line of n bytes
unfoldable pub name_and_literal : ℕ → List ℕ → PieceMeaning
name_and_literal n xs =
    if can_be_defined xs then defined_as (word xs) (n - length (behind_word xs)) (literal (behind_word xs))
    else Bad E05 0

unfoldable pub cle_if : Bool → Pragma → PieceMeaning
cle_if good pragma = if good then Is (Cle pragma) else Bad E05 0

-- a name, and anything behind it
unfoldable pub other_pragma : List ℕ → List ℕ → PieceMeaning
other_pragma line xs = if has_word xs then allowed line Blank else Bad E05 0

-- THE FORMS OF `#pragma cle`, but for `def`, by what stands behind `cle`
unfoldable pub cle : List ℕ → PieceMeaning
cle xs =
    if begins_with (codes "begin" ∷ []) xs then cle_if (is_name (behind_words 1 xs)) (Begin (word (behind_words 1 xs)))
    else (if begins_with (codes "end" ∷ []) xs then cle_if (is_name (behind_words 1 xs)) (End (word (behind_words 1 xs)))
    else cle_if (is_name xs && not (is_cle_word (word xs))) (Next (word xs)))

-- THE FORMS OF A DIRECTIVE. `line` has its comments as spaces and no blanks at its end; `xs` is what stands behind its `#`.
unfoldable pub form : List ℕ → List ℕ → PieceMeaning
form line xs =
    if begins_with (codes "include" ∷ []) xs then header (behind_words 1 xs)
    else (if begins_with (codes "define" ∷ []) xs then name_and_literal (length line) (behind_words 1 xs)
    else (if begins_with (codes "pragma" ∷ codes "cle" ∷ []) xs then cle (behind_words 2 xs)
    else (if begins_with (codes "pragma" ∷ []) xs then other_pragma line (behind_words 1 xs)
    else Bad E05 0)))

-- what stands behind the number sign
unfoldable pub behind_hash : List ℕ → List ℕ
behind_hash line = behind_blanks (drop 1 line)

abbrev pub by_blanked : Option (List ℕ) → PieceMeaning
by_blanked None = Bad E05 0
by_blanked (Some line) = form (trimmed line) (behind_hash (trimmed line))

-- `#pragma cle def NAME TEXT`, where comments are not looked for, and TEXT is not empty. The line has no blanks at its end.
unfoldable pub is_def : List ℕ → Bool
is_def xs = begins_with (codes "pragma" ∷ codes "cle" ∷ codes "def" ∷ []) xs && has_word (behind_words 3 xs) && nat_lt 0 (length (behind_words 4 xs))

unfoldable pub def_line : List ℕ → List ℕ → PieceMeaning
def_line line xs = allowed line (Is (Cle (Def (word (behind_words 3 xs)) (behind_words 4 xs))))

-- what a directive line means
unfoldable pub directive : List ℕ → PieceMeaning
directive p =
    if is_def (behind_hash (trimmed p)) then def_line (trimmed p) (behind_hash (trimmed p))
    else by_blanked (blanked Code [] p)
