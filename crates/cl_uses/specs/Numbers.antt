-- Which of two answers counts.
use Rattle.std.specs.Prelude.{ℕ, Option, Some, None}

-- the first answer, else the second
abbrev pub either : Option ℕ → Option ℕ → Option ℕ
either (Some k) other = Some k
either None other = other
