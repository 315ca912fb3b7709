-- What is known behind some declarations.
use Rattle.std.specs.Prelude.{◌≡◌, ◌≤◌, ◌-◌, List, length, drop}
use Rattle.cl_levels.specs.Uses.{Known}

-- The known variables are those of the base with others before them.
pub record Extends (base ks : List Known) : Type 0 where
  pub left : drop (length ks - length base) ks ≡ base
  pub longer : length base ≤ length ks
