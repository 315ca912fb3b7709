-- What begins raises the work that is left.
use Rattle.std.proofs.Common.{◌≡◌, ℕ, ◌+◌, ◌≤◌, List, [], ◌++◌, length, Option, Some, None, arith}
use Rattle.std.specs.Prelude.{Bool, true, false, nat_le, slice_get, ℤ, if◌then◌else◌}
use Rattle.std.proofs.lemmas.Bool.{false≢true}
use Rattle.en_image.specs.declared.image.Image.{Image}
use Rattle.en_image.specs.declared.image.Entrance.{Entrance}
use Rattle.en_image.specs.Entrances.{joined, entrance_at}
use Rattle.en_machine.specs.declared.phase.Phase.{Phase}
use Rattle.en_machine.specs.declared.phase.Phase.TheVariants.{Runs, Awaits}
use Rattle.en_machine.specs.Steps.{Running}
use Rattle.en_machine.specs.Begins.{begun, nowhere, started, served, resumed, blocked, blocked_values}
use Rattle.en_machine.specs.Cells.{first_frame}
use Rattle.machine_laws.specs.Left.{work_left, CanBegin}
use Rattle.machine_laws.proofs.Weights.{weight_small, steps_within}

one_of : (b : Bool) (x y : Running) (i : Image) (n : ℕ) → work_left i Runs x ≤ n → work_left i Runs y ≤ n → work_left i Runs (if b then x else y) ≤ n
one_of true x y i n h k = h
one_of false x y i n h k = k

-- where the test holds, the first of two machines is it
first_is : (b : Bool) (x y : Running) (i : Image) (n : ℕ) → b ≡ true → work_left i Runs x ≤ n → work_left i Runs (if b then x else y) ≤ n
first_is true x y i n e h = h
first_is false x y i n e h = absurd (false≢true e)

begun_raises : (o : Option Entrance) (i : Image) (values : List ℤ) (p : Phase) (m : Running) → CanBegin o (length values) → work_left i Runs (begun o i values m) ≤ work_left i p m + length i.code
begun_raises None i values p m can = absurd can
begun_raises (Some e) i values p m can =
    let to = record m { pc = e.at; memory = first_frame (length i.statics) e values m.memory.cells; callers = [] } in
    let a = weight_small i.code e.at in let b = steps_within i p m in
    first_is (nat_le (length values + e.locals) e.cells) to (nowhere i m) i (work_left i p m + length i.code) can (omega arith)

pub start_raises : (i : Image) (p : Phase) (m : Running) → CanBegin (entrance_at i i.main) 0 → work_left i Runs (started i m) ≤ work_left i p m + length i.code
unfolding started
start_raises i p m can = begun_raises (entrance_at i i.main) i [] p m can

pub serve_raises : (i : Image) (p : Phase) (m : Running) (row : ℕ) (values : List ℤ) → CanBegin (entrance_at i (joined (slice_get i.rows row))) (length values) → work_left i Runs (served i row values m) ≤ work_left i p m + length i.code
unfolding served
serve_raises i p m row values can = begun_raises (entrance_at i (joined (slice_get i.rows row))) i values p m can

pub resume_stays : (i : Image) (m : Running) (row : ℕ) (values : List ℤ) → work_left i Runs (resumed i values m) ≤ work_left i (Awaits row) m
resume_stays i m row values = one_of (nat_le (length m.memory.cells + length values) m.memory.frame.limit) (record m { memory = record m.memory { cells = m.memory.cells ++ values } }) (nowhere i m) i (work_left i (Awaits row) m) (omega arith) (let a = weight_small i.code (length i.code) in omega arith)

pub block_stays : (i : Image) (m : Running) (row : ℕ) → work_left i Runs (blocked i row m) ≤ work_left i (Awaits row) m
unfolding blocked
block_stays i m row = resume_stays i m row (blocked_values (slice_get i.payloads row) m.values)
