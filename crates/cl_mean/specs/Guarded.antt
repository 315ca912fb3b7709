-- The guarded call: what lies between the levels. The course of a run is followed; each time that it asks, the laws judge, the
-- callee serves on fresh objects, and what crosses is written down. Laws and crossings are kept here, and no
-- computation sees them.
use Rattle.std.specs.Prelude.{ℕ, zero, suc, Bool, true, false, List, [], ◌∷◌, ◌++◌, Option, Some, None, Result, Ok, Err}
use Rattle.cl_tree.specs.declared.kinds.IntKind.{IntKind}
use Rattle.cl_tree.specs.Arithmetic.{value}
use Rattle.cl_mean.specs.declared.law.Asked.{Asked}
use Rattle.cl_mean.specs.declared.law.Law.{Law}
use Rattle.cl_mean.specs.declared.law.Ruling.{Ruling}
use Rattle.cl_mean.specs.declared.law.Ruling.TheVariants.{Pass, Block}
use Rattle.cl_mean.specs.Value.{Labelled, bare}
use Rattle.cl_mean.specs.Shape.{kinds_of}
use Rattle.cl_mean.specs.State.{State}
use Rattle.cl_mean.specs.Source.{Definition, Source, payload_of}
use Rattle.cl_mean.specs.Course.{Course, comes, stops, asks, Stop, unbounded, Ask, Reply}
use Rattle.cl_mean.specs.Calls.{far, call_at, local_call, served}
use Rattle.cl_mean.specs.Judging.{Judged, laws_judge, directive}

-- ---- what is kept between levels

-- what crosses: integers, or a call that is blocked or broken off
pub data Content (A : Type 0) : Type 0 where
  holds : List A → Content A
  blocked : Content A
  broken : Content A

-- the request or the reply of a call by a row
pub record Crossing : Type 0 where
  pub row : ℕ
  pub reply : Bool
  pub content : Content Labelled

-- the policy's law, the house laws, what has crossed
pub record Kept : Type 0 where
  pub law : Law
  pub houses : List Law
  pub crossings : List Crossing

abbrev pub crossed : Kept → Ask → Bool → Content Labelled → Kept
crossed g a reply content = record { law = g.law; houses = g.houses; crossings = g.crossings ++ record { row = a.row; reply = reply; content = content } ∷ [] }

-- ---- judging

-- each value in the kind of its place
abbrev pub fitted : List IntKind → List Labelled → List Labelled
fitted [] xs = xs
fitted (k ∷ ks) [] = []
fitted (k ∷ ks) (x ∷ xs) = record { number = value k x.number; labels = x.labels } ∷ fitted ks xs

abbrev pub laws_of : Law → Kept → List Law
laws_of first g = first ∷ (g.law ∷ g.houses)

-- the policy's law and the house laws as judging leaves them
abbrev pub with_laws : List Law → Kept → Kept
with_laws (first ∷ (law ∷ houses)) g = record { law = law; houses = houses; crossings = g.crossings }
with_laws _ g = g

abbrev pub unless_blocked : Ruling → List Labelled → Option (List Labelled)
unless_blocked Pass xs = Some xs
unless_blocked Block xs = None

abbrev pub asked_of : Ask → Bool → Asked
asked_of a reply = record { from = a.from; to = a.callee.level; function = a.callee.index; reply = reply }

-- The directive of the entry is asked first, then the policy's law, then the house laws.
unfoldable pub judging : Kept → Ask → Bool → List Labelled → Judged (List Law) Labelled
judging g a reply xs =
    let payload = payload_of a.callee reply in
    laws_judge bare (fitted (kinds_of payload)) (laws_of (directive a.entry payload reply) g) (asked_of a reply) xs

-- what is let through: None where it is blocked
abbrev pub let_through : Judged (List Law) Labelled → Option (List Labelled)
let_through j = unless_blocked j.ruling j.values

abbrev pub judged_by : Judged (List Law) Labelled → Kept → Kept
judged_by j g = with_laws j.law g

-- ---- the guarded call

-- what a run comes to between levels: a result or a stop, with the levels and what is kept as they are then
pub record GuardedRun (A : Type 0) : Type 0 where
  pub result : Result A Stop
  pub levels : State
  pub kept : Kept

-- how a callee serves the integers of a request
abbrev pub Serves : Type 0
Serves = Definition → List Labelled → State → Kept → GuardedRun (List Labelled)

-- how a caller goes on with a reply
abbrev pub Goes : Type 0 → Type 0
Goes A = Reply → State → Kept → GuardedRun A

-- the reply: blocked, or with the judged values
abbrev pub replied : {A : Type 0} → Ask → Goes A → State → Kept → Option (List Labelled) → GuardedRun A
replied a again state g None = again None state (crossed g a true blocked)
replied a again state g (Some ys) = again (Some ys) state (crossed g a true (holds ys))

-- the callee has ended: its reply is judged; where it stops its reply is broken, and the whole run stops
abbrev pub answered_by : {A : Type 0} → Ask → Goes A → State → Kept → Result (List Labelled) Stop → GuardedRun A
answered_by a again state g (Err stop) = record { result = Err stop; levels = state; kept = crossed g a true broken }
answered_by a again state g (Ok ys) = replied a again state (judged_by (judging g a true ys) g) (let_through (judging g a true ys))

abbrev pub served_then : {A : Type 0} → Ask → Goes A → GuardedRun (List Labelled) → GuardedRun A
served_then a again r = answered_by a again r.levels r.kept r.result

-- the request: blocked with a blocked reply, or served with the judged values
abbrev pub requested : {A : Type 0} → Serves → Ask → Goes A → State → Kept → Option (List Labelled) → GuardedRun A
requested serves a again state g None = again None state (crossed (crossed g a false blocked) a true blocked)
requested serves a again state g (Some xs) = served_then a again (serves a.callee xs state (crossed g a false (holds xs)))

-- The guarded run of a course: what it asks is judged, served and judged.
unfoldable pub guarded : {A : Type 0} → Serves → Course A → Kept → GuardedRun A
guarded serves (comes x state) g = record { result = Ok x; levels = state; kept = g }
guarded serves (stops stop state) g = record { result = Err stop; levels = state; kept = g }
guarded serves (asks a state rest) g =
    requested serves a (λ reply now h. guarded serves (rest reply now) h) state (judged_by (judging g a false a.values) g) (let_through (judging g a false a.values))

-- A callee serves by a course of its own, where calls between levels nest at most so deep.
unfoldable pub serves_at : Source → ℕ → ℕ → Serves
serves_at source bound zero d xs state g = record { result = Err unbounded; levels = state; kept = g }
serves_at source bound (suc depth) d xs state g =
    guarded (serves_at source bound depth) (served (local_call source bound (call_at source (far source) bound)) d xs state) g
