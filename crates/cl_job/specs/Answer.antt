-- Answers: a status with its texts and its file, and when an answer was given.
use Rattle.std.specs.Prelude.{◌≡◌, ◌⊎◌, ℕ, List, [], take, Option, Some, None}
use Rattle.cl_base.specs.Outside.{Held, Rose, IsWritten, OthersStand}
use Rattle.cl_rules.specs.declared.rule.Refusal.{Refusal}
use Rattle.cl_job.specs.declared.status.Status.{Status}
use Rattle.cl_job.specs.declared.status.Status.TheVariants as status
use Rattle.cl_job.specs.Seen.{Seen}
use Rattle.cl_job.specs.Sinks.{Grew}
use Rattle.cl_job.specs.Texts.{usage_text, refusal_text}

-- a file, by its path and its bytes
abbrev pub File : Type 0
File = List ℕ × List ℕ

-- a status with the text on standard output, the one on standard error, and the file that is written, if one is
pub record Answer : Type 0 where
  pub status : Status
  pub text : List ℕ
  pub fault_text : List ℕ
  pub file : Option File

abbrev pub usage_answer : Answer
usage_answer = record { status = status.Usage; text = []; fault_text = usage_text; file = None }

abbrev pub refusal_answer : Refusal → Answer
refusal_answer refusal = record { status = status.Refused; text = []; fault_text = refusal_text refusal; file = None }

-- the statuses that neither a fault nor want of memory gives
abbrev pub IsSettled : Status → Type 0
IsSettled status.Done = Unit {0}
IsSettled status.Trapped = Unit {0}
IsSettled status.Refused = Unit {0}
IsSettled status.Usage = Unit {0}
IsSettled status.ReadFault = ⊥
IsSettled status.WriteFault = ⊥
IsSettled status.NoMemory = ⊥

-- standard error was given a text: it has it, or its count rose and it has a front part of it
abbrev pub WasGiven : List ℕ → Seen → Seen → Type 0
WasGiven text before after =
    Grew text before.err after.err
    ⊎ (Rose before.err_count after.err_count × ((kept : ℕ) × Grew (take kept text) before.err after.err))

-- the files after a file was written, or after none was: every other file stands
abbrev pub FilesHold : Option File → Option Held → Option Held → Type 0
FilesHold None before now = now ≡ before
FilesHold (Some file) None now = now ≡ None
FilesHold (Some file) (Some before) None = ⊥
FilesHold (Some file) (Some before) (Some now) = IsWritten file.0 file.1 before now

-- what can have changed of the files: the file at this path alone, or nothing where there is no path
abbrev pub OnlyAt : Option (List ℕ) → Option Held → Option Held → Type 0
OnlyAt None before now = now ≡ before
OnlyAt (Some path) None now = now ≡ None
OnlyAt (Some path) (Some before) None = ⊥
OnlyAt (Some path) (Some before) (Some now) = OthersStand path before now

-- an expected answer was given: the status is its own, the files hold its file, standard output has its text more,
-- and standard error was given its fault text
pub record Answered (Expected : Answer → Type 0) (status : Status) (before after : Seen) : Type 0 where
  pub answer : Answer
  pub expected : Expected answer
  pub status_is : status ≡ answer.status
  pub file : FilesHold answer.file before.files after.files
  pub text : Grew answer.text before.out after.out
  pub fault_text : WasGiven answer.fault_text before after
