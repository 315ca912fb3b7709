-- What a source is found to be.
use Rattle.std.specs.Prelude.{◌≡◌, ◌<◌, ℕ, List, length}
use Rattle.cl_mean.specs.declared.checked.Checked.{Checked}
use Rattle.cl_rules.specs.declared.rule.Refusal.{Refusal}

-- a checked program, or what fails first, and at which line
pub data Verdict : Type 0 where
  Accepted : Checked → Verdict
  Refused : Refusal → Verdict

-- the first rule is on the length of the source
pub record IsTooLong (source : List ℕ) (refusal : Refusal) : Type 0 where
  pub long : 1048576 < length source
  pub is : refusal ≡ record { rule = 1; line = 1 }
