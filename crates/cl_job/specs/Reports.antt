-- What the parts of the top call do.
use Rattle.std.specs.Prelude.{◌≡◌, ◌≤◌, ◌⊎◌, ℕ, List, Option, option_map}
use Rattle.cl_base.specs.Outside.{Rose}
use Rattle.cl_mean.specs.declared.checked.Checked.{Checked}
use Rattle.cl_run.specs.FormMeaning.{mean}
use Rattle.cl_rules.specs.declared.rule.Refusal.{Refusal}
use Rattle.cl_job.specs.declared.status.Status.{Status}
use Rattle.cl_job.specs.declared.status.Status.TheVariants as status
use Rattle.cl_job.specs.Answer.{FilesHold, WasGiven}
use Rattle.cl_job.specs.Listing.{listing}
use Rattle.cl_job.specs.RunAnswer.{journal_of, report_text, status_of}
use Rattle.cl_job.specs.Seen.{Seen}
use Rattle.cl_job.specs.Sinks.{Grew}
use Rattle.cl_job.specs.Texts.{refusal_text}

-- the files stand, and no read and no write of them failed
pub record FilesStand (before after : Seen) : Type 0 where
  pub files : after.files ≡ before.files
  pub reads : after.read_count ≡ before.read_count
  pub writes : after.write_count ≡ before.write_count

-- standard output stands, and no put on it failed
pub record OutStands (before after : Seen) : Type 0 where
  pub out : after.out ≡ before.out
  pub puts : after.out_count ≡ before.out_count

-- standard error stands, and no put on it failed
pub record ErrStands (before after : Seen) : Type 0 where
  pub err : after.err ≡ before.err
  pub puts : after.err_count ≡ before.err_count

-- all stands but standard error, whose count doesn't fall
pub record OnlyErr (before after : Seen) : Type 0 where
  pub files : FilesStand before after
  pub out : OutStands before after
  pub err_count : before.err_count ≤ after.err_count

-- a refusal, unless memory ran out
abbrev pub Refuses : Refusal → Status → Seen → Seen → Type 0
Refuses refusal status.Refused before after = WasGiven (refusal_text refusal) before after
Refuses refusal status.NoMemory before after = Unit {0}
Refuses refusal _ before after = ⊥

-- the report of a run that is over was put
pub record Put (checked : Checked) (answer : Status) (before after : Seen) : Type 0 where
  pub status_is : answer ≡ status_of (mean checked).end
  pub text : Grew (report_text checked.labels.levels (mean checked)) before.out after.out

-- the report of a run that is over, unless a put failed or memory ran out
abbrev pub Puts : Checked → Status → Seen → Seen → Type 0
Puts checked status.Done before after = Put checked status.Done before after
Puts checked status.Trapped before after = Put checked status.Trapped before after
Puts checked status.WriteFault before after = Unit {0}
Puts checked status.NoMemory before after = Unit {0}
Puts checked _ before after = ⊥

-- the counts of failed writes and of failed puts on standard output: one rises where the call failed, and both stand
-- at every other answer
pub record WriteCounts (failed : Type 0) (before after : Seen) : Type 0 where
  pub later : (before.write_count ≤ after.write_count) × (before.out_count ≤ after.out_count)
  pub rose : failed → Rose before.write_count after.write_count ⊎ Rose before.out_count after.out_count
  pub stands : ¬ failed → (after.write_count ≡ before.write_count) × (after.out_count ≡ before.out_count)

-- the whole report was put, and the journal was written where it was asked for
pub record Reported (checked : Checked) (journal : Option (List ℕ)) (answer : Status) (before after : Seen) : Type 0 where
  pub status_is : answer ≡ status_of (mean checked).end
  pub file : FilesHold (option_map (λ path. (path, journal_of checked)) journal) before.files after.files
  pub text : Grew (report_text checked.labels.levels (mean checked)) before.out after.out

-- a run with its whole report, unless a write or a put failed or memory ran out
abbrev pub Reports : Checked → Option (List ℕ) → Status → Seen → Seen → Type 0
Reports checked journal status.Done before after = Reported checked journal status.Done before after
Reports checked journal status.Trapped before after = Reported checked journal status.Trapped before after
Reports checked journal status.WriteFault before after = Unit {0}
Reports checked journal status.NoMemory before after = Unit {0}
Reports checked journal _ before after = ⊥

-- the listing of an accepted source, unless the put failed or memory ran out
abbrev pub Lists : Checked → Status → Seen → Seen → Type 0
Lists checked status.Done before after = Grew (listing checked) before.out after.out
Lists checked status.WriteFault before after = Unit {0}
Lists checked status.NoMemory before after = Unit {0}
Lists checked _ before after = ⊥
