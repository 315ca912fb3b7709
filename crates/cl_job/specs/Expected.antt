-- The expected answer of the program: its status and its texts, from the words, the files and the definitions.
use Rattle.std.specs.Prelude.{◌≡◌, ℕ, List, Option, Some, None, IfSome}
use Rattle.cl_base.specs.Outside.{Held, file_of}
use Rattle.cl_words.specs.Words.{Asked, Check, Run}
use Rattle.cl_job.specs.Answer.{Answer, usage_answer}
use Rattle.cl_job.specs.CheckAnswer.{CheckGives}
use Rattle.cl_job.specs.RunAnswer.{RunGives}

-- the bytes that the file at a path can have held: just those that are told, and any where nothing is told
abbrev pub CanHold : Option Held → List ℕ → List ℕ → Type 0
CanHold told path bytes = IfSome told (λ files. file_of files path ≡ Some bytes)

-- the answer that a command gets of the file at a path, by the one that a source gets
pub record FileGives (told : Option Held) (path : List ℕ) (Gives : List ℕ → Answer → Type 0) (answer : Answer) : Type 0 where
  pub source : List ℕ
  pub held : CanHold told path source
  pub gives : Gives source answer

-- the expected answer; to words that have no reading it is the usage text
abbrev pub IsExpected : Option Held → Option Asked → Answer → Type 0
IsExpected told None answer = answer ≡ usage_answer
IsExpected told (Some (Check path)) answer = FileGives told path CheckGives answer
IsExpected told (Some (Run run)) answer = FileGives told run.source (RunGives run.journal) answer

-- what is asked for, where it isn't a run
abbrev pub but_run : Option Asked → Option Asked
but_run None = None
but_run (Some (Check path)) = Some (Check path)
but_run (Some (Run run)) = None

-- the path of the journal that a run asks for
abbrev pub journal_path : Option Asked → Option (List ℕ)
journal_path None = None
journal_path (Some (Check path)) = None
journal_path (Some (Run run)) = run.journal
