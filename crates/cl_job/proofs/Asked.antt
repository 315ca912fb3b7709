-- How what is asked for gets its expected answer.
use Rattle.std.proofs.Common.{◌≡◌, ◌≢◌, ◌↔◌, [], ℕ, List, Option, None, Some, refl, sym, ap, subst}
use Rattle.cl_base.specs.Outside.{Held}
use Rattle.cl_words.specs.Words.{Asked, Check, Run, RunAsked}
use Rattle.cl_job.specs.declared.status.Status.{Status}
use Rattle.cl_job.specs.declared.status.Status.TheVariants as status
use Rattle.cl_job.specs.Answer.{Answer, Answered, IsSettled, WasGiven, usage_answer}
use Rattle.cl_job.specs.CheckAnswer.{CheckGives}
use Rattle.cl_job.specs.Expected.{FileGives, IsExpected, but_run}
use Rattle.cl_job.specs.Reports.{OnlyErr}
use Rattle.cl_job.specs.RunAnswer.{RunGives}
use Rattle.cl_job.specs.Seen.{Seen}
use Rattle.cl_job.specs.Texts.{usage_text}
use Rattle.cl_job.proofs.Answers.{none_written, nothing_more}

-- an answer to what is asked for is one to what is the same
pub expected_as : (told : Option Held) (asked same : Option Asked) (s : Status) (before after : Seen) → asked ≡ same → Answered (IsExpected told same) s before after → Answered (IsExpected told asked) s before after
expected_as told asked same s before after is a = subst (λ (x : Option Asked). Answered (IsExpected told x) s before after) (sym is) a

-- what the file gives is expected where the command asks for it
pub check_expected : (told : Option Held) (asked : Option Asked) (path : List ℕ) (s : Status) (before after : Seen) → asked ≡ Some (Check path) → Answered (FileGives told path CheckGives) s before after → Answered (IsExpected told asked) s before after
check_expected told asked path s before after is a = expected_as told asked (Some (Check path)) s before after is a

pub run_expected : (told : Option Held) (asked : Option Asked) (run : RunAsked) (s : Status) (before after : Seen) → asked ≡ Some (Run run) → Answered (FileGives told run.source (RunGives run.journal)) s before after → Answered (IsExpected told asked) s before after
run_expected told asked run s before after is a = expected_as told asked (Some (Run run)) s before after is a

-- words without a reading are answered by the usage text
pub usage_answered : (told : Option Held) (asked : Option Asked) (s : Status) (before after : Seen) → asked ≡ None → s ≡ status.Usage → WasGiven usage_text before after → OnlyErr before after → Answered (IsExpected told asked) s before after
usage_answered told None s before after none is given rest = record {
  answer = usage_answer;
  expected = refl;
  status_is = is;
  file = rest.files.files;
  text = nothing_more before.out after.out rest.out.out;
  fault_text = given;
}
usage_answered told (Some x) s before after none is given rest = cc

-- what isn't a run stays
pub alike : (asked : Option Asked) → but_run asked ≢ None → but_run asked ≡ asked
alike None some = refl
alike (Some (Check path)) some = refl
alike (Some (Run run)) some = absurd (some refl)

pub ruleset commands = (check_expected, run_expected, usage_answered, none_written)
