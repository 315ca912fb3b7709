-- The bytes of a source, by their ASCII characters, and names (C11 5.2.1, 6.4.2.1).
use Rattle.std.specs.Prelude.{ℕ, Bool, false, not, ◌&&◌, ◌||◌, ◌==◌, nat_le, List, [], ◌∷◌}
use Rattle.std.specs.List.{list_all}
use Prim.Native.Char.{code}

-- a blank on a line: a space, a tab or a CR
unfoldable pub is_blank : ℕ → Bool
is_blank b = (b == code " ") || (b == code "\t") || (b == code "\r")

unfoldable pub is_printable : ℕ → Bool
is_printable b = nat_le (code " ") b && nat_le b (code "~")

-- a byte that may stand on a line
unfoldable pub is_on_line : ℕ → Bool
is_on_line b = is_blank b || is_printable b

unfoldable pub is_newline : ℕ → Bool
is_newline b = b == code "\n"

-- a byte that no source may have outside a comment
unfoldable pub is_bad : ℕ → Bool
is_bad b = not (is_on_line b || is_newline b)

unfoldable pub is_letter : ℕ → Bool
is_letter b = (nat_le (code "A") b && nat_le b (code "Z")) || (nat_le (code "a") b && nat_le b (code "z")) || (b == code "_")

unfoldable pub is_digit : ℕ → Bool
is_digit b = nat_le (code "0") b && nat_le b (code "9")

-- a byte that may stand in a name
unfoldable pub is_word : ℕ → Bool
is_word b = is_letter b || is_digit b

-- a letter or `_`, then letters, digits and `_`
unfoldable pub is_name : List ℕ → Bool
is_name [] = false
is_name (b ∷ bs) = is_letter b && list_all is_word bs
