-- Files and sinks in memory, whose calls can be made to fail by their numbers. Calls are numbered from 1.
use Rattle.std.specs.Prelude.{◌≡◌, ℕ, ◌+◌, ◌-◌, ◌^◌, ◌<◌, ◌||◌, min, List, [], ◌++◌, length, take, slice_index_or, slice_set, Option, None, Some, Result, Ok, Err, unwrap_or, option_map, find, is_some, nat_lt, nat_eq, nat_le, Bool, if◌then◌else◌}
use Rattle.std.specs.List.{list_any}
use Rattle.std.specs.Global.{Vec}
use Rattle.cl_base.specs.Outside.{Held, file_of, IsWritten}
use Rattle.cl_base.specs.declared.outside.FileStop.{FileStop}
use Rattle.cl_base.specs.declared.outside.FileStop.TheVariants.{Failed, TooLong, NoMemory}

-- one more, up to the greatest u64
abbrev pub next : ℕ → ℕ
next count = min (count + 1) (2 ^ 64 - 1)

-- files, the number of the last call, the numbers of the calls that are to fail, and what has failed
pub record Memory : Type 0 where
  pub files : Held
  pub calls : ℕ
  pub named : List ℕ
  pub read_faults : ℕ
  pub write_faults : ℕ
  pub failed_path : Option (List ℕ)

abbrev pub no_files : Memory
no_files = record { files = []; calls = 0; named = []; read_faults = 0; write_faults = 0; failed_path = None }

-- the file that counts for a path stands at this index: its bytes are those of the path, and other bytes in its place
-- are a write to the path
pub record IsAt (path : List ℕ) (files : Held) (index : ℕ) : Type 0 where
  pub inside : index < length files
  pub bytes : file_of files path ≡ Some (slice_index_or files index ([], [])).1
  pub written : (bytes : List ℕ) → IsWritten path bytes files (slice_set files index ((slice_index_or files index ([], [])).0, bytes))

-- the next call is to fail
abbrev pub fails_next : Memory → Bool
fails_next memory = list_any (λ call. nat_eq call (next memory.calls)) memory.named

-- a call was made
abbrev pub called : Memory → Memory
called memory = record memory { calls = next memory.calls }

-- a read of this path was made, and failed
abbrev pub read_failed : List ℕ → Memory → Memory
read_failed path memory =
    record memory { calls = next memory.calls; read_faults = next memory.read_faults; failed_path = Some path }

-- a write of this path was made, and failed
abbrev pub write_failed : List ℕ → Memory → Memory
write_failed path memory =
    record memory { calls = next memory.calls; write_faults = next memory.write_faults; failed_path = Some path }

-- what a read of these bytes gives
abbrev pub up_to : ℕ → List ℕ → Result (List ℕ) FileStop
up_to limit bytes = if nat_le (length bytes) limit then Ok bytes else Err TooLong

-- what a read of a file gives, of which there may be none
abbrev pub read_of : ℕ → Option (List ℕ) → Result (List ℕ) FileStop
read_of limit None = Err Failed
read_of limit (Some bytes) = up_to limit bytes

-- what the next read gives where memory lasts
abbrev pub read_gives : List ℕ → ℕ → Memory → Result (List ℕ) FileStop
read_gives path limit memory = if fails_next memory then Err Failed else read_of limit (file_of memory.files path)

-- the answer is this one, or want of memory
abbrev pub IsAnswer : Result (List ℕ) FileStop → Result (Vec ℕ) FileStop → Type 0
IsAnswer answer (Ok bytes) = answer ≡ Ok bytes.items
IsAnswer answer (Err NoMemory) = Unit {0}
IsAnswer answer (Err stop) = answer ≡ Err stop

-- memory after a read with this answer
abbrev pub after_read : {T : Type 0} → List ℕ → Memory → Result T FileStop → Memory
after_read path memory (Err Failed) = read_failed path memory
after_read path memory _ = called memory

-- the bytes taken, the room for them in all, the number of the last put, and the puts that are to fail, each with
-- how much of its piece it keeps, and how many have failed
pub record Page : Type 0 where
  pub bytes : List ℕ
  pub room : ℕ
  pub calls : ℕ
  pub named : List (ℕ × ℕ)
  pub faults : ℕ

-- a page with room for so many bytes
abbrev pub blank : ℕ → Page
blank room = record { bytes = []; room = room; calls = 0; named = []; faults = 0 }

-- how much the next put keeps, where it is to fail: the first entry counts
abbrev pub kept_next : Page → Option ℕ
kept_next page = option_map (λ entry. entry.1) (find (λ entry. nat_eq entry.0 (next page.calls)) page.named)

-- how many bytes fit
abbrev pub left : Page → ℕ
left page = page.room - length page.bytes

-- the next put of this piece fails
abbrev pub refuses : List ℕ → Page → Bool
refuses piece page = is_some (kept_next page) || nat_lt (left page) (length piece)

-- the page with what the next put keeps of this piece: as many bytes as asked for, and no more than fit
abbrev pub kept : List ℕ → Page → Page
kept piece page =
    record page {
      bytes = page.bytes ++ take (min (unwrap_or (kept_next page) (length piece)) (left page)) piece;
      calls = next page.calls;
    }

-- the page after a put of this piece
abbrev pub after_put : List ℕ → Page → Page
after_put piece page =
    record (kept piece page) { faults = if refuses piece page then next page.faults else page.faults }
