-- What `check` answers to a source.
use Rattle.std.specs.Prelude.{◌≡◌, ◌≤◌, ◌⊎◌, ℕ, List, [], length, None}
use Rattle.cl_front.specs.Verdict.{IsAccepted, IsRefused}
use Rattle.cl_rules.specs.declared.rule.Refusal.{Refusal}
use Rattle.cl_job.specs.declared.status.Status.TheVariants as status
use Rattle.cl_job.specs.Answer.{Answer, refusal_answer}
use Rattle.cl_job.specs.Listing.{listing}
use Rattle.cl_job.specs.Verdict.{Verdict, Accepted, Refused, IsTooLong}

-- of the rules behind the one on the length, this one is the first that fails
pub record FailsRule (source : List ℕ) (refusal : Refusal) : Type 0 where
  pub short : length source ≤ 1048576
  pub fails : IsRefused source refusal.rule refusal.line

abbrev pub IsJudged : List ℕ → Verdict → Type 0
IsJudged source (Accepted checked) = (length source ≤ 1048576) × IsAccepted source checked
IsJudged source (Refused refusal) = IsTooLong source refusal ⊎ FailsRule source refusal

-- an accepted source is listed
abbrev pub listed : Verdict → Answer
listed (Accepted checked) = record { status = status.Done; text = listing checked; fault_text = []; file = None }
listed (Refused refusal) = refusal_answer refusal

-- the answer that a source gets
pub record CheckGives (source : List ℕ) (answer : Answer) : Type 0 where
  pub verdict : Verdict
  pub judged : IsJudged source verdict
  pub is : answer ≡ listed verdict
