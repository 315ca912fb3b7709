-- The guarded run over a state for each level, and what a level's code leaves alone.
use Rattle.std.specs.Prelude.{◌≡◌, ℕ, zero, suc, ◌<◌, ◌≤◌, ◌==◌, true, false, List, length, Option, Some, None, Result, Ok, Err, if◌then◌else◌}
use Rattle.cl_mean.specs.Value.{Labelled}
use Rattle.cl_mean.specs.State.{State, level_in}
use Rattle.cl_mean.specs.Source.{Definition, Source}
use Rattle.cl_mean.specs.Course.{Course, comes, stops, asks, Stop, unbounded, Ask, Reply}
use Rattle.cl_mean.specs.Calls.{far, call_at, local_call, served}
use Rattle.cl_mean.specs.Guarded.{holds, blocked, broken, Kept, crossed, judging, let_through, judged_by, GuardedRun, Serves}
use Rattle.mean_laws.specs.Alike.{Nums, Replies, Asks, AtLevel, Between}

-- ---- what a level's code leaves alone

-- the second state has every level but L as the first has it
abbrev pub OthersStay : ℕ → State → State → Type 0
OthersStay L s t = (length t ≡ length s) × ((M : ℕ) → (M ≡ L → ⊥) → level_in t M ≡ level_in s M)

-- from two states to two states in which L is the same but for labels
abbrev pub BothMove : ℕ → State → State → State → State → Type 0
BothMove L s t s' t' = AtLevel L s' t' × OthersStay L s s' × OthersStay L t t'

-- Two courses of a level, from two states: side by side, and each leaves the other levels as they are, from where it begins or goes on to
-- where it asks or ends.
abbrev pub LeavesOthers : {A B : Type 0} → ℕ → (A → B → Type 0) → State → State → Course A → Course B → Type 0
LeavesOthers L P s t (comes a s') (comes b t') = P a b × BothMove L s t s' t'
LeavesOthers L P s t (stops h s') (stops k t') = (h ≡ k) × BothMove L s t s' t'
LeavesOthers L P s t (asks a s' f) (asks b t' g) = Asks a b × BothMove L s t s' t' × ((r q : Reply) → Replies r q → (s2 t2 : State) → AtLevel L s2 t2 → LeavesOthers L P s2 t2 (f r s2) (g q t2))
LeavesOthers L P s t _ _ = ⊥

-- ---- a state for each level

abbrev pub Parts : Type 0
Parts = ℕ → State

abbrev pub put : Parts → ℕ → State → Parts
put mem L s = λ M. if L == M then s else mem M

pub record Came (A : Type 0) : Type 0 where
  pub result : Result A Stop
  pub parts : Parts
  pub kept : Kept

abbrev pub ServesApart : Type 0
ServesApart = Definition → List Labelled → Parts → Kept → Came (List Labelled)

abbrev pub GoesApart : Type 0 → Type 0
GoesApart A = Reply → Parts → Kept → Came A

abbrev pub replied_apart : {A : Type 0} → Ask → GoesApart A → Parts → Kept → Option (List Labelled) → Came A
replied_apart a again mem g None = again None mem (crossed g a true blocked)
replied_apart a again mem g (Some ys) = again (Some ys) mem (crossed g a true (holds ys))

abbrev pub answered_apart : {A : Type 0} → Ask → GoesApart A → Parts → Kept → Result (List Labelled) Stop → Came A
answered_apart a again mem g (Err stop) = record { result = Err stop; parts = mem; kept = crossed g a true broken }
answered_apart a again mem g (Ok ys) = replied_apart a again mem (judged_by (judging g a true ys) g) (let_through (judging g a true ys))

abbrev pub requested_apart : {A : Type 0} → ServesApart → Ask → GoesApart A → Parts → Kept → Option (List Labelled) → Came A
requested_apart serves a again mem g None = again None mem (crossed (crossed g a false blocked) a true blocked)
requested_apart serves a again mem g (Some xs) = answered_apart a again (serves a.callee xs mem (crossed g a false (holds xs))).parts (serves a.callee xs mem (crossed g a false (holds xs))).kept (serves a.callee xs mem (crossed g a false (holds xs))).result

-- the course of a level: it goes on from its own state
abbrev pub apart : {A : Type 0} → ServesApart → ℕ → Course A → Parts → Kept → Came A
apart serves L (comes x s) mem g = record { result = Ok x; parts = put mem L s; kept = g }
apart serves L (stops h s) mem g = record { result = Err h; parts = put mem L s; kept = g }
apart serves L (asks a s rest) mem g =
    requested_apart serves a (λ r now h. apart serves L (rest r s) now h) (put mem L s) (judged_by (judging g a false a.values) g) (let_through (judging g a false a.values))

abbrev pub apart_at : Source → ℕ → ℕ → ServesApart
apart_at source bound zero d xs mem g = record { result = Err unbounded; parts = mem; kept = g }
apart_at source bound (suc depth) d xs mem g = apart (apart_at source bound depth) d.level (served (local_call source bound (call_at source (far source) bound)) d xs (mem d.level)) mem g

-- ---- both the same

-- two ends of runs: results that `P` relates, or the same stop; and `S` besides
abbrev pub Outs : {A B : Type 0} → (A → B → Type 0) → Type 0 → Result A Stop → Result B Stop → Type 0
Outs P S (Ok a) (Ok b) = P a b × S
Outs P S (Ok a) (Err k) = ⊥
Outs P S (Err h) (Ok b) = ⊥
Outs P S (Err h) (Err k) = (h ≡ k) × S

-- each level's part is the same
abbrev pub EachSame : ℕ → State → Parts → Type 0
EachSame count s mem = (M : ℕ) → M < count → AtLevel M s (mem M)

-- calls between levels go down in rank, as they do where no levels call in a cycle
abbrev pub AsksBelow : {A : Type 0} → ℕ → (ℕ → ℕ) → (Definition → Type 0) → ℕ → Course A → Type 0
AsksBelow count rank Known L (comes x s) = Unit {0}
AsksBelow count rank Known L (stops h s) = Unit {0}
AsksBelow count rank Known L (asks a s rest) = (Known a.callee × (a.callee.level < count)) × (rank a.callee.level < rank L) × ((r : Reply) (s' : State) → AsksBelow count rank Known L (rest r s'))

-- the levels of no lower rank than L, but for L, are left alone
abbrev pub AboveStay : (ℕ → ℕ) → ℕ → Parts → Parts → Type 0
AboveStay rank L m m' = (M : ℕ) → rank L ≤ rank M → (M ≡ L → ⊥) → m' M ≡ m M

abbrev pub CameSame : {A B : Type 0} → ℕ → (ℕ → ℕ) → (A → B → Type 0) → ℕ → Parts → GuardedRun A → Came B → Type 0
CameSame count rank P L mem r c = Outs P (EachSame count r.levels c.parts × Between r.kept c.kept × AboveStay rank L mem c.parts) r.result c.result

-- serving over one state and over a state for each level comes to the same
abbrev pub ServeSame : ℕ → (ℕ → ℕ) → (Definition → Type 0) → Serves → ServesApart → Type 0
ServeSame count rank Known f f' = (d : Definition) → Known d × (d.level < count) → (xs ys : List Labelled) → Nums xs ys → (s : State) (mem : Parts) → EachSame count s mem → (g h : Kept) → Between g h → CameSame count rank Nums d.level mem (f d xs s g) (f' d ys mem h)
