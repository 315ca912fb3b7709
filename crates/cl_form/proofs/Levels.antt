-- Levels are texts.
use Rattle.std.proofs.Common.{◌≡◌, ℕ, zero, suc, List, [], ◌∷◌, ◌<◌, arith, true}
use Rattle.std.specs.List.{list_all}
use Rattle.std.proofs.lemmas.Bool.Decides.{nat_tests}
use Rattle.std.proofs.lemmas.Str.{IsUtf8-from_ascii}
use Rattle.std.specs.Str.{IsUtf8, IsAscii}
use Rattle.cl_tree.specs.Letters.{is_letter, is_digit}
use Rattle.cl_form.specs.Form.{is_level_byte, is_level}
use Rattle.cl_form.proofs.Steps.{and_elim}

byte_ascii : (b : ℕ) → is_level_byte b ≡ true → b < 128
unfolding is_letter is_digit
byte_ascii b e = grind (arith, nat_tests)

bytes_ascii : (w : List ℕ) → list_all is_level_byte w ≡ true → IsAscii w
bytes_ascii [] e i = omega arith
bytes_ascii (b ∷ bs) e zero = byte_ascii b (and_elim (is_level_byte b) (list_all is_level_byte bs) e).0
bytes_ascii (b ∷ bs) e (suc i) = bytes_ascii bs (and_elim (is_level_byte b) (list_all is_level_byte bs) e).1 i

pub level_is_text : (level : List ℕ) → is_level level ≡ true → IsUtf8 level
unfolding is_level
level_is_text level e = IsUtf8-from_ascii level (bytes_ascii level (and_elim _ _ e).0)
