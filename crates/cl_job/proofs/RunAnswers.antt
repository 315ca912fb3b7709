-- How a run gives the expected answer.
use Rattle.std.proofs.Common.{arith, ◌≡◌, Bool, true, false, [], inr, ◌≤◌, ℕ, List, Option, Some, length, refl, sym, inl, subst, Result, Ok, Err, MatchResult, IfSome, ◌++◌, map, option_map, ap, ◌∙◌}
use Rattle.std.proofs.lemmas.List.Elements.{All-nil, All-cons}
use Rattle.cl_base.specs.Outside.{Held, IsLonger}
use Rattle.cl_mean.specs.declared.checked.Checked.{Checked}
use Rattle.cl_mean.specs.declared.outcome.End.{End}
use Rattle.cl_mean.specs.declared.outcome.End.TheVariants.{Exit, Trapped}
use Rattle.cl_run.specs.declared.state.LevelState.{LevelState}
use Rattle.cl_run.specs.declared.state.State.{State}
use Rattle.cl_run.specs.FormMeaning.{mean}
use Rattle.cl_run.specs.Runs.{IsRun, IsServed, IsServedRow}
use Rattle.cl_form.specs.declared.stop.FormStop.{FormStop}
use Rattle.cl_form.specs.declared.stop.FormStop.TheVariants as stopped
use Rattle.cl_form.specs.declared.names.Pair.{Pair}
use Rattle.cl_form.specs.Form.{HasForm, alone_checked, pair_checked, pair_row}
use Rattle.cl_rules.specs.declared.rule.Refusal.{Refusal}
use Rattle.cl_tree.specs.declared.tree.Program.{Program}
use Rattle.hal_route.specs.Hal.{State as Hal}
use Rattle.cl_job.specs.declared.status.Status.{Status}
use Rattle.cl_job.specs.declared.status.Status.TheVariants as status
use Rattle.cl_job.specs.Answer.{FilesHold, Answered, IsSettled}
use Rattle.cl_job.specs.Expected.{FileGives}
use Rattle.cl_job.specs.Reports.{FilesStand, OutStands, ErrStands, OnlyErr, Put, Puts, Refuses, Reported, Reports}
use Rattle.cl_job.specs.RunAnswer.{journal_of, levels_text, report_text, status_of, IsVerdict, ran, RunGives}
use Rattle.cl_job.specs.Seen.{Seen}
use Rattle.cl_job.specs.Sinks.{Grew}
use Rattle.cl_job.specs.Texts.{last_text}
use Rattle.cl_job.specs.Verdict.{Accepted, Refused}
use Rattle.cl_job.proofs.Answers.{AfterRead, file_answered, longer_refused, none_written, nothing_given, refusal_given}

-- the programs of the forms can be run
alone_served : (program : Program) (level : List ℕ) (line : ℕ) → IsServed (alone_checked program level line)
alone_served program level line = record { level = omega arith; main = refl; functions = omega arith; few = omega arith; rows = All-nil _ }

pair_served : (program : Program) (p : Pair) (line main_line : ℕ) (crosses : Bool) → IsServed (pair_checked program p line main_line crosses)
pair_served program p line main_line false = record { level = omega arith; main = refl; functions = omega arith; few = omega arith; rows = All-nil _ }
pair_served program p line main_line true = record {
  level = omega arith;
  main = refl;
  functions = omega arith;
  few = omega arith;
  rows = All-cons (IsServedRow (pair_checked program p line main_line true)) (pair_row p) [] (record { from = refl; to = omega arith; other = λ e. absurd (one_is_not_zero e); args = refl; result = refl; request = refl; reply = refl }) (All-nil _);
}
  where
    one_is_not_zero : ◌≡◌ {A = ℕ} 1 0 → ⊥
    one_is_not_zero e = cc

pub served : (source : List ℕ) (checked : Checked) → HasForm source checked → IsServed checked
served source checked (inl f) = subst IsServed (sym f.checked_is) (alone_served _ f.level f.second)
served source checked (inr f) = subst IsServed (sym f.checked_is) (pair_served _ f.names f.bodies.second f.bodies.main_second _)

-- what a run is reported by is what its meaning is
whole_text : (checked : Checked) (state : State) (hal : Hal) (end : End) → IsRun checked state hal end (mean checked) → levels_text checked.labels.levels (map (λ l. l.output) state.levels) ++ last_text checked.labels.levels hal.frames end ≡ report_text checked.labels.levels (mean checked)
unfolding report_text
whole_text checked state hal end r =
    ap (λ outputs. levels_text checked.labels.levels outputs ++ last_text checked.labels.levels hal.frames end) (sym r.outputs)
    ∙ ap (λ frames. levels_text checked.labels.levels (mean checked).outputs ++ last_text checked.labels.levels frames end) r.frames
    ∙ ap (λ e. levels_text checked.labels.levels (mean checked).outputs ++ last_text checked.labels.levels (length (mean checked).crossings) e) (sym r.ends)

puts_by : (checked : Checked) (end : End) (s : Status) (before after : Seen) → (mean checked).end ≡ end → s ≡ status_of end → Grew (report_text checked.labels.levels (mean checked)) before.out after.out → Puts checked s before after
puts_by checked (Exit n) status.Done before after ends is grew = record { status_is = sym (ap status_of ends); text = grew }
puts_by checked (Trapped level trap) status.Trapped before after ends is grew = record { status_is = sym (ap status_of ends); text = grew }
puts_by checked (Exit n) status.Trapped before after ends is grew = cc
puts_by checked (Exit n) status.Refused before after ends is grew = cc
puts_by checked (Exit n) status.ReadFault before after ends is grew = cc
puts_by checked (Exit n) status.WriteFault before after ends is grew = tt
puts_by checked (Exit n) status.NoMemory before after ends is grew = tt
puts_by checked (Exit n) status.Usage before after ends is grew = cc
puts_by checked (Trapped level trap) status.Done before after ends is grew = cc
puts_by checked (Trapped level trap) status.Refused before after ends is grew = cc
puts_by checked (Trapped level trap) status.ReadFault before after ends is grew = cc
puts_by checked (Trapped level trap) status.WriteFault before after ends is grew = tt
puts_by checked (Trapped level trap) status.NoMemory before after ends is grew = tt
puts_by checked (Trapped level trap) status.Usage before after ends is grew = cc

-- the report of a run that is over
pub put_whole : (checked : Checked) (state : State) (hal : Hal) (end : End) (s : Status) (before after : Seen) (names : List (List ℕ)) → IsRun checked state hal end (mean checked) → s ≡ status_of end → names ≡ checked.labels.levels → Grew (levels_text names (map (λ l. l.output) state.levels) ++ last_text names hal.frames end) before.out after.out → Puts checked s before after
put_whole checked state hal end s before after names r is names_are grew =
    puts_by checked end s before after r.ends is (subst (λ (text : List ℕ). Grew text before.out after.out) (text_is ∙ whole_text checked state hal end r) grew)
  where
    text_is : levels_text names (map (λ l. l.output) state.levels) ++ last_text names hal.frames end ≡ levels_text checked.labels.levels (map (λ l. l.output) state.levels) ++ last_text checked.labels.levels hal.frames end
    text_is = ap (λ ns. levels_text ns (map (λ l. l.output) state.levels) ++ last_text ns hal.frames end) names_are

-- a report, with the journal before it
reported_by : (checked : Checked) (journal : Option (List ℕ)) (s : Status) (before between after : Seen) → FilesHold (option_map (λ path. (path, journal_of checked)) journal) before.files between.files → OutStands before between → FilesStand between after → Put checked s between after → Reported checked journal s before after
reported_by checked journal s before between after kept out files put = record {
  status_is = put.status_is;
  file = subst (λ (now : Option Held). FilesHold (option_map (λ path. (path, journal_of checked)) journal) before.files now) (sym files.files) kept;
  text = subst (λ (told : Option (List ℕ)). Grew (report_text checked.labels.levels (mean checked)) told after.out) out.out put.text;
}

pub reports : (checked : Checked) (journal : Option (List ℕ)) (s : Status) (before between after : Seen) → FilesHold (option_map (λ path. (path, journal_of checked)) journal) before.files between.files → OutStands before between → FilesStand between after → Puts checked s between after → Reports checked journal s before after
reports checked journal status.Done before between after kept out files puts = reported_by checked journal _ before between after kept out files puts
reports checked journal status.Trapped before between after kept out files puts = reported_by checked journal _ before between after kept out files puts
reports checked journal status.Refused before between after kept out files puts = puts
reports checked journal status.ReadFault before between after kept out files puts = puts
reports checked journal status.WriteFault before between after kept out files puts = tt
reports checked journal status.NoMemory before between after kept out files puts = tt
reports checked journal status.Usage before between after kept out files puts = puts

-- a report of a checked source is its answer
report_answers : (journal : Option (List ℕ)) (source : List ℕ) (checked : Checked) (s : Status) (before after : Seen) → length source ≤ 1048576 → HasForm source checked → Reported checked journal s before after → ErrStands before after → Answered (RunGives journal source) s before after
report_answers journal source checked s before after short form r quiet = record {
  answer = ran journal (Accepted checked);
  expected = record { verdict = Accepted checked; judged = (short, form); is = refl };
  status_is = r.status_is;
  file = r.file;
  text = r.text;
  fault_text = nothing_given before after quiet;
}

pub reported : (journal : Option (List ℕ)) (source : List ℕ) (checked : Checked) (s : Status) (before after : Seen) → length source ≤ 1048576 → HasForm source checked → Reports checked journal s before after → (IsSettled s → ErrStands before after) → IsSettled s → Answered (RunGives journal source) s before after
reported journal source checked status.Done before after short form r quiet settled = report_answers journal source checked _ before after short form r (quiet settled)
reported journal source checked status.Trapped before after short form r quiet settled = report_answers journal source checked _ before after short form r (quiet settled)
reported journal source checked status.Refused before after short form r quiet settled = absurd r
reported journal source checked status.ReadFault before after short form r quiet settled = absurd settled
reported journal source checked status.WriteFault before after short form r quiet settled = absurd settled
reported journal source checked status.NoMemory before after short form r quiet settled = absurd settled
reported journal source checked status.Usage before after short form r quiet settled = absurd r

-- a refusal is the answer of a verdict that refuses
pub refused : (journal : Option (List ℕ)) (source : List ℕ) (refusal : Refusal) (s : Status) (before after : Seen) → IsVerdict source (Refused refusal) → Refuses refusal s before after → OnlyErr before after → IsSettled s → Answered (RunGives journal source) s before after
refused journal source refusal s before after judged r rest settled =
    refusal_given (RunGives journal source) refusal s before after (record { verdict = Refused refusal; judged = judged; is = refl }) r rest settled

-- a reader that answers no reading leaves none
pub no_reading : (r : Result Checked FormStop) (stop : FormStop) (checked : Checked) → r ≡ Err stop → stop ≡ stopped.NoReading → MatchResult r (λ x. x ≡ checked) (λ e. e ≡ stopped.NoMemory) → ⊥
no_reading (Ok x) stop checked is stop_is m = cc
no_reading (Err e) stop checked is stop_is m = let h : e ≡ stopped.NoMemory = m in cc

-- a file that is too long is refused for that
pub longer : (path : List ℕ) (journal : Option (List ℕ)) (refusal : Refusal) (s : Status) (before between after : Seen) → AfterRead before between → refusal ≡ record { rule = 1; line = 1 } → IfSome before.files (IsLonger 1048576 path) → Refuses refusal s between after → OnlyErr between after → IsSettled s → Answered (FileGives before.files path (RunGives journal)) s before after
longer path journal refusal s before between after read is long r rest settled =
    longer_refused path (RunGives journal) refusal s before between after (λ source h. record { verdict = Refused refusal; judged = inl h; is = refl }) read is long r rest settled

pub ruleset run_answers = (served, reported, refused, file_answered, longer, none_written)
