-- How `check` gives the expected answer.
use Rattle.std.proofs.Common.{◌≡◌, ◌≤◌, ℕ, List, length, refl, sym, ap, subst, inl, inr, ◌∙◌, IfErr, Result, Ok, Err, IfSome}
use Rattle.cl_base.specs.Outside.{IsLonger}
use Rattle.cl_front.specs.Verdict.{IsAccepted, IsRefused}
use Rattle.cl_mean.specs.declared.checked.Checked.{Checked}
use Rattle.cl_rules.specs.declared.rule.Refusal.{Refusal}
use Rattle.cl_job.specs.declared.status.Status.{Status}
use Rattle.cl_job.specs.declared.status.Status.TheVariants as status
use Rattle.cl_job.specs.Answer.{Answered, IsSettled}
use Rattle.cl_job.specs.CheckAnswer.{CheckGives, IsJudged, listed}
use Rattle.cl_job.specs.Expected.{FileGives}
use Rattle.cl_job.specs.Reports.{FilesStand, ErrStands, OnlyErr, Refuses, Lists}
use Rattle.cl_job.specs.Seen.{Seen}
use Rattle.cl_job.specs.Verdict.{Accepted, Refused}
use Rattle.cl_job.proofs.Answers.{AfterRead, file_answered, longer_refused, nothing_given, refusal_given}

-- the listing of an accepted source is its answer
pub listed_is : (source : List ℕ) (checked : Checked) (s : Status) (before after : Seen) → length source ≤ 1048576 → IsAccepted source checked → Lists checked s before after → FilesStand before after → (IsSettled s → ErrStands before after) → IsSettled s → Answered (CheckGives source) s before after
listed_is source checked status.Done before after short accepted r files quiet settled = record {
  answer = listed (Accepted checked);
  expected = record { verdict = Accepted checked; judged = (short, accepted); is = refl };
  status_is = refl;
  file = files.files;
  text = r;
  fault_text = nothing_given before after (quiet settled);
}
listed_is source checked status.Trapped before after short accepted r files quiet settled = absurd r
listed_is source checked status.Refused before after short accepted r files quiet settled = absurd r
listed_is source checked status.ReadFault before after short accepted r files quiet settled = absurd settled
listed_is source checked status.WriteFault before after short accepted r files quiet settled = absurd settled
listed_is source checked status.NoMemory before after short accepted r files quiet settled = absurd settled
listed_is source checked status.Usage before after short accepted r files quiet settled = absurd r

-- a refusal is the answer of the rule that fails first
pub rule_fails : (source : List ℕ) (refusal : Refusal) (s : Status) (before after : Seen) → length source ≤ 1048576 → IsRefused source refusal.rule refusal.line → Refuses refusal s before after → OnlyErr before after → IsSettled s → Answered (CheckGives source) s before after
rule_fails source refusal s before after short fails r rest settled =
    refusal_given (CheckGives source) refusal s before after (record { verdict = Refused refusal; judged = inr (record { short = short; fails = fails }); is = refl }) r rest settled

-- a file that is too long is refused for that
pub longer : (path : List ℕ) (refusal : Refusal) (s : Status) (before between after : Seen) → AfterRead before between → refusal ≡ record { rule = 1; line = 1 } → IfSome before.files (IsLonger 1048576 path) → Refuses refusal s between after → OnlyErr between after → IsSettled s → Answered (FileGives before.files path CheckGives) s before after
longer path refusal s before between after read is long r rest settled =
    longer_refused path CheckGives refusal s before between after (λ source h. record { verdict = Refused refusal; judged = inl h; is = refl }) read is long r rest settled

pub ruleset check_answers = (listed_is, rule_fails, file_answered, longer)
