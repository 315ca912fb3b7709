-- What `run` answers to a source.
use Rattle.std.specs.Prelude.{◌≡◌, ◌≤◌, ◌⊎◌, ℕ, List, [], ◌∷◌, ◌++◌, codes, length, Option, option_map}
use Rattle.cl_mean.specs.declared.checked.Checked.{Checked}
use Rattle.cl_mean.specs.declared.outcome.End.{End}
use Rattle.cl_mean.specs.declared.outcome.End.TheVariants.{Exit, Trapped}
use Rattle.cl_run.specs.FormJournal.{journal}
use Rattle.cl_run.specs.FormMeaning.{Outcome, mean}
use Rattle.cl_form.specs.Form.{HasForm}
use Rattle.cl_rules.specs.declared.rule.Refusal.{Refusal}
use Rattle.cl_job.specs.declared.status.Status.{Status}
use Rattle.cl_job.specs.declared.status.Status.TheVariants as status
use Rattle.cl_job.specs.Answer.{Answer, refusal_answer}
use Rattle.cl_job.specs.Texts.{level_head, last_text}
use Rattle.cl_job.specs.Verdict.{Verdict, Accepted, Refused, IsTooLong}

-- the text of one level: its name, how many bytes it wrote, and these bytes
unfoldable pub level_text : List ℕ → List ℕ → List ℕ
level_text name output = level_head name (length output) ++ (output ++ codes "\n")

-- the levels in order
abbrev pub levels_text : List (List ℕ) → List (List ℕ) → List ℕ
levels_text (name ∷ names) (output ∷ outputs) = level_text name output ++ levels_text names outputs
levels_text _ _ = []

-- what a run writes
unfoldable pub report_text : List (List ℕ) → Outcome → List ℕ
report_text names outcome = levels_text names outcome.outputs ++ last_text names (length outcome.crossings) outcome.end

-- behind the rule on the length comes the one on the reading
pub record HasNoReading (source : List ℕ) (refusal : Refusal) : Type 0 where
  pub short : length source ≤ 1048576
  pub none : (checked : Checked) → HasForm source checked → ⊥
  pub is : refusal ≡ record { rule = 6; line = 1 }

abbrev pub IsVerdict : List ℕ → Verdict → Type 0
IsVerdict source (Accepted checked) = (length source ≤ 1048576) × HasForm source checked
IsVerdict source (Refused refusal) = IsTooLong source refusal ⊎ HasNoReading source refusal

abbrev pub status_of : End → Status
status_of (Exit value) = status.Done
status_of (Trapped level trap) = status.Trapped

-- the journal of what crosses
abbrev pub journal_of : Checked → List ℕ
journal_of checked = journal checked.gedl.rows (mean checked).crossings

-- an accepted source is run, and its journal is written where it is asked for
abbrev pub ran : Option (List ℕ) → Verdict → Answer
ran path (Accepted checked) = record {
  status = status_of (mean checked).end;
  text = report_text checked.labels.levels (mean checked);
  fault_text = [];
  file = option_map (λ p. (p, journal_of checked)) path;
}
ran path (Refused refusal) = refusal_answer refusal

-- the answer that a source gets, with the path of the journal
pub record RunGives (journal : Option (List ℕ)) (source : List ℕ) (answer : Answer) : Type 0 where
  pub verdict : Verdict
  pub judged : IsVerdict source verdict
  pub is : answer ≡ ran journal verdict
