-- How the parts of the top calls give the expected answer.
use Rattle.std.proofs.Common.{◌≡◌, [], ◌<◌, ℕ, List, Option, None, Some, length, refl, sym, inl, inr, take, subst, arith, IfSome, IsSomeAnd, replicate, ◌+◌, ap}
use Rattle.std.proofs.lemmas.List.{length-replicate}
use Rattle.cl_base.specs.Outside.{Held, file_of, IsLonger, Rose}
use Rattle.cl_rules.specs.declared.rule.Refusal.{Refusal}
use Rattle.cl_job.specs.declared.status.Status.{Status}
use Rattle.cl_job.specs.declared.status.Status.TheVariants as status
use Rattle.cl_job.specs.Answer.{Answer, FilesHold, OnlyAt, Answered, IsSettled, WasGiven, refusal_answer}
use Rattle.cl_job.specs.Expected.{CanHold, FileGives}
use Rattle.cl_job.specs.Reports.{OutStands, ErrStands, OnlyErr, Refuses}
use Rattle.cl_job.specs.Seen.{Seen}
use Rattle.cl_job.specs.Sinks.{Grew}
use Rattle.cl_job.specs.Verdict.{IsTooLong}
use Rattle.cl_job.proofs.Growth.{grew_none}

-- standard error that stands was given nothing
pub nothing_given : (before after : Seen) → ErrStands before after → WasGiven [] before after
nothing_given before after stands = inl (subst (λ (now : Option (List ℕ)). Grew [] before.err now) (sym stands.err) (grew_none before.err))

-- a sink that stands has nothing more
pub nothing_more : (before now : Option (List ℕ)) → now ≡ before → Grew [] before now
nothing_more before now is = subst (λ (told : Option (List ℕ)). Grew [] before told) (sym is) (grew_none before)

-- a refusal is the answer where its text is
pub refusal_given : (Gives : Answer → Type 0) (refusal : Refusal) (s : Status) (before after : Seen) → Gives (refusal_answer refusal) → Refuses refusal s before after → OnlyErr before after → IsSettled s → Answered Gives s before after
refusal_given Gives refusal status.Refused before after gives r rest settled = record {
  answer = refusal_answer refusal;
  expected = gives;
  status_is = refl;
  file = rest.files.files;
  text = nothing_more before.out after.out rest.out.out;
  fault_text = r;
}
refusal_given Gives refusal status.Done before after gives r rest settled = absurd r
refusal_given Gives refusal status.Trapped before after gives r rest settled = absurd r
refusal_given Gives refusal status.ReadFault before after gives r rest settled = absurd r
refusal_given Gives refusal status.WriteFault before after gives r rest settled = absurd r
refusal_given Gives refusal status.NoMemory before after gives r rest settled = absurd settled
refusal_given Gives refusal status.Usage before after gives r rest settled = absurd r

-- a read changes nothing but the count of failed reads
pub record AfterRead (before after : Seen) : Type 0 where
  pub files : after.files ≡ before.files
  pub out : OutStands before after
  pub err : ErrStands before after

-- the answer that the bytes of a file get is the one that the file gets
pub file_answered : (path : List ℕ) (Gives : List ℕ → Answer → Type 0) (source : List ℕ) (s : Status) (before between after : Seen) → AfterRead before between → CanHold before.files path source → Answered (Gives source) s between after → Answered (FileGives before.files path Gives) s before after
file_answered path Gives source s before between after read held a = record {
  answer = a.answer;
  expected = record { source = source; held = held; gives = a.expected };
  status_is = a.status_is;
  file = subst (λ (told : Option Held). FilesHold a.answer.file told after.files) read.files a.file;
  text = subst (λ (told : Option (List ℕ)). Grew a.answer.text told after.out) read.out.out a.text;
  fault_text = given_before a.answer.fault_text before between after read.err a.fault_text;
}
  where
    given_before : (text : List ℕ) (before between after : Seen) → ErrStands before between → WasGiven text between after → WasGiven text before after
    given_before text before between after stands (inl grew) = inl (subst (λ (told : Option (List ℕ)). Grew text told after.err) stands.err grew)
    given_before text before between after stands (inr part) = inr (subst (λ (count : ℕ). Rose count after.err_count) stands.puts part.0, (part.1.0, subst (λ (told : Option (List ℕ)). Grew (take part.1.0 text) told after.err) stands.err part.1.1))

-- some bytes are longer than any limit
some_longer : (limit : ℕ) → (source : List ℕ) × (limit < length source)
some_longer limit = (replicate (limit + 1) 0, rw length-replicate (omega arith))

-- bytes that are longer than the limit
elim_longer : (o : Option (List ℕ)) → IsSomeAnd o (λ bytes. 1048576 < length bytes) → (source : List ℕ) × (o ≡ Some source) × (1048576 < length source)
elim_longer None h = absurd h
elim_longer (Some source) h = (source, refl, h)

-- a file that is told to be too long holds bytes that are; where nothing is told it can
pub longer_held : (told : Option Held) (path : List ℕ) → IfSome told (IsLonger 1048576 path) → (source : List ℕ) × CanHold told path source × (1048576 < length source)
longer_held None path h = let long = some_longer 1048576 in (long.0, tt, long.1)
longer_held (Some files) path h = elim_longer (file_of files path) h

-- a file that is too long is refused for that
pub longer_refused : (path : List ℕ) (Gives : List ℕ → Answer → Type 0) (refusal : Refusal) (s : Status) (before between after : Seen) → ((source : List ℕ) → IsTooLong source refusal → Gives source (refusal_answer refusal)) → AfterRead before between → refusal ≡ record { rule = 1; line = 1 } → IfSome before.files (IsLonger 1048576 path) → Refuses refusal s between after → OnlyErr between after → IsSettled s → Answered (FileGives before.files path Gives) s before after
longer_refused path Gives refusal s before between after gives read is longer r rest settled =
    let h = longer_held before.files path longer in
    file_answered path Gives h.0 s before between after read h.1 (refusal_given (Gives h.0) refusal s between after (gives h.0 (record { long = h.2; is = is })) r rest settled)

-- nothing was written anywhere
pub none_written : (path : Option (List ℕ)) (files files' : Option Held) → files' ≡ files → OnlyAt path files files'
none_written path files files' is = subst (λ (now : Option Held). OnlyAt path files now) (sym is) (same path files)
  where
    same : (path : Option (List ℕ)) (files : Option Held) → OnlyAt path files files
    same None files = refl
    same (Some path) None = refl
    same (Some path) (Some before) = λ other apart. refl
