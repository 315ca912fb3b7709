-- What contracts see of the things that a command works with.
use Rattle.std.specs.Prelude.{ℕ, List, Option}
use Rattle.cl_base.specs.Outside.{Held}

-- the files, the standard output and the standard error, where they tell what they hold, and their counts of faults
pub record Seen : Type 0 where
  pub files : Option Held
  pub read_count : ℕ
  pub write_count : ℕ
  pub out : Option (List ℕ)
  pub out_count : ℕ
  pub err : Option (List ℕ)
  pub err_count : ℕ
