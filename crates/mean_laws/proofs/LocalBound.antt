-- Nor does a level's own run ever meet the bound.
use Rattle.std.proofs.Common.{ℕ, suc, ◌<◌, ◌≤◌, arith, ℤ, List, [], ◌∷◌, map, Bool, true, false, ◌==◌, ◌&&◌, Option, Some, None, if◌then◌else◌}
use Rattle.cl_mean.specs.declared.checked.Checked.{Checked}
use Rattle.cl_mean.specs.Value.{Labelled, bare}
use Rattle.cl_mean.specs.Shape.{kinds_of}
use Rattle.cl_mean.specs.State.{State, level_in}
use Rattle.cl_mean.specs.Source.{Definition, Source, source_of, is_main_at, payload_of}
use Rattle.cl_mean.specs.Course.{Course, comes, stops, asks, Ask, Reply}
use Rattle.cl_mean.specs.Calls.{far}
use Rattle.cl_mean.specs.Guarded.{Content, holds, blocked, broken}
use Rattle.cl_mean.specs.Meaning.{start_of, bound_of, main_course}
use Rattle.cl_mean.specs.Journal.{Frame, Said, says_stop, message}
use Rattle.cl_mean.specs.LocalRun.{is_fitting, is_content, is_turn, Role, running, serving, Stand, rests, waits, over, LevelRun, stays, with_none_active, rested, ended, stand_after_stop, stand_of, follows, row_at, function_served, serving_of, begins, answered, acts, acted, acted_all, input_only, began, level_run}
use Rattle.mean_laws.specs.Runs.{Unmet, StandsUnmet}
use Rattle.mean_laws.proofs.Alike.{Nums}
use Rattle.mean_laws.proofs.StepsLeft.{steps_in, no_more}
use Rattle.mean_laws.proofs.Counting.{Counts}
use Rattle.mean_laws.proofs.Bound.{far_count, served_counts, start_steps, main_counts, own_course}

abbrev pub CountsTo : ℕ → Course (List Labelled) → Type 0
CountsTo n x = Counts {B = List Labelled} n Nums x

-- where a level stands with no more steps left than its bound
abbrev pub Stands : ℕ → Stand → Type 0
Stands n (rests s) = steps_in s ≤ n
Stands n (waits role a s rest) = (steps_in s < n) × ((r : Reply) (now : State) → steps_in now ≤ steps_in s → CountsTo (suc (steps_in now)) (rest r now))
Stands n (over s) = Unit {0}

abbrev pub StandsAt : ℕ → LevelRun → Type 0
StandsAt n l = Stands n l.stand

stands_if : (n : ℕ) (c : Bool) (l m : LevelRun) → StandsAt n l → StandsAt n m → StandsAt n (if c then l else m)
stands_if n true l m h k = h
stands_if n false l m h k = k

ended_stands : (n : ℕ) (role : Role) (s : State) → steps_in s ≤ n → Stands n (ended role s)
ended_stands n running s le = tt
ended_stands n (serving k) s le = le

left_stands : (n level : ℕ) (role : Role) (s : State) → steps_in s ≤ n → Stands n (stand_after_stop level role s)
left_stands n level running s le = tt
left_stands n level (serving k) s le = let p : steps_in (rested level s) ≤ steps_in s = no_more level s (with_none_active (level_in s level)) (omega arith) in omega arith

module _ (source : Source) (n level : ℕ) where
  course_stands : (role : Role) (m : ℕ) (x : Course (List Labelled)) → m ≤ n → CountsTo m x → Stands n (stand_of level role x)
  course_stands role m (comes xs s) le h = ended_stands n role s (let p : steps_in s < m = h.1 in omega arith)
  course_stands role m (stops stop s) le h = left_stands n level role s (let p : steps_in s ≤ m = h.1 in omega arith)
  course_stands role m (asks a s rest) le h = (let p : steps_in s < m = h.0 in omega arith, h.1)

  begins_stands : (turn : ℕ) (s : State) (l : LevelRun) (k : ℕ) (content : Content ℤ) (o : Option Definition) → steps_in s ≤ n → StandsAt n (begins source n level turn s l k content o)
  begins_stands turn s l k (holds ns) (Some d) le =
      stands_if n (is_fitting (kinds_of (payload_of d false)) ns) (follows level (serving k) turn l (serving_of source n d ns s)) (stays (rests s) l)
      (course_stands (serving k) (steps_in s) (serving_of source n d ns s) le (served_counts source n d (map bare ns) s le)) le
  begins_stands turn s l k (holds ns) None le = le
  begins_stands turn s l k blocked o le = le
  begins_stands turn s l k broken o le = le

  answered_stands : (role : Role) (turn : ℕ) (a : Ask) (s : State) (rest : Reply → State → Course (List Labelled)) (l : LevelRun) (content : Content ℤ) → Stands n (waits role a s rest) → StandsAt n (answered level role turn s rest l content)
  answered_stands role turn a s rest l (holds ns) h = course_stands role (suc (steps_in s)) (rest (Some (map bare ns)) s) (let p : steps_in s < n = h.0 in omega arith) (h.1 (Some (map bare ns)) s (omega arith))
  answered_stands role turn a s rest l blocked h = course_stands role (suc (steps_in s)) (rest None s) (let p : steps_in s < n = h.0 in omega arith) (h.1 None s (omega arith))
  answered_stands role turn a s rest l broken h = left_stands n level role s (let p : steps_in s < n = h.0 in omega arith)

  acts_stands : (turn : ℕ) (l : LevelRun) (stand : Stand) (said : Said) → Stands n stand → StandsAt n (acts source n level turn l stand said)
  acts_stands turn l (over s) said h = tt
  acts_stands turn l (rests s) says_stop h = tt
  acts_stands turn l (rests s) (message k false content) h = begins_stands turn s l k content (function_served source level (row_at source.rows k)) h
  acts_stands turn l (rests s) (message k true content) h = h
  acts_stands turn l (waits role a s rest) says_stop h = tt
  acts_stands turn l (waits role a s rest) (message k false content) h = h
  acts_stands turn l (waits role a s rest) (message k true content) h =
      stands_if n ((k == a.row) && is_content (kinds_of (payload_of a.callee true)) content) (answered level role turn s rest l content) (stays (waits role a s rest) l) (answered_stands role turn a s rest l content h) h

  acted_stands : (l : LevelRun) (f : Frame) → StandsAt n l → StandsAt n (acted source n level l f)
  unfolding acted
  acted_stands l f h = stands_if n (is_turn f.turn) (acts source n level f.turn l l.stand f.said) l (acts_stands f.turn l l.stand f.said h) h

  all_stand : (l : LevelRun) (fs : List Frame) → StandsAt n l → StandsAt n (acted_all source n level l fs)
  unfolding acted_all
  all_stand l [] h = h
  all_stand l (f ∷ fs) h = all_stand (acted source n level l f) fs (acted_stands l f h)

  stands_unmet : (stand : Stand) → Stands n stand → StandsUnmet source n stand
  stands_unmet (rests s) h = λ d ns. own_course Nums (steps_in s) (serving_of source n d ns s) (served_counts source n d (map bare ns) s h)
  stands_unmet (waits role a s rest) h = λ r. own_course Nums (suc (steps_in s)) (rest r s) (h.1 r s (omega arith))
  stands_unmet (over s) h = tt

main_at_start : (checked : Checked) (level : ℕ) (input : List ℕ) (limit : ℕ) → CountsTo (steps_in (start_of checked (input_only level input) limit)) (main_course checked (far (source_of checked)) (bound_of checked limit) (start_of checked (input_only level input) limit))
main_at_start checked level input limit =
    main_counts checked (far (source_of checked)) (bound_of checked limit) (far_count (source_of checked) (bound_of checked limit)) (start_of checked (input_only level input) limit) (start_steps checked (input_only level input) limit)

began_stands : (checked : Checked) (level : ℕ) (input : List ℕ) (limit : ℕ) → StandsAt (bound_of checked limit) (began checked level input limit)
unfolding began
began_stands checked level input limit =
    let s : State = start_of checked (input_only level input) limit in
    let le : steps_in s ≤ bound_of checked limit = start_steps checked (input_only level input) limit in
    let l : LevelRun = record { stand = rests s; sent = []; ends = [] } in
    stands_if (bound_of checked limit) (is_main_at (source_of checked) level) (follows level running 0 l (main_course checked (far (source_of checked)) (bound_of checked limit) s)) l
    (course_stands (source_of checked) (bound_of checked limit) level running (steps_in s) _ le (main_at_start checked level input limit)) le

pub begins_unmet : (checked : Checked) (level : ℕ) (input : List ℕ) (limit : ℕ) → Unmet (main_course checked (far (source_of checked)) (bound_of checked limit) (start_of checked (input_only level input) limit))
begins_unmet checked level input limit = own_course Nums (steps_in (start_of checked (input_only level input) limit)) _ (main_at_start checked level input limit)

pub local_unmet : (checked : Checked) (level : ℕ) (input : List ℕ) (limit : ℕ) (frames : List Frame) → StandsUnmet (source_of checked) (bound_of checked limit) (level_run checked level input limit frames).stand
unfolding level_run
local_unmet checked level input limit frames =
    stands_unmet (source_of checked) (bound_of checked limit) level (level_run checked level input limit frames).stand
    (all_stand (source_of checked) (bound_of checked limit) level (began checked level input limit) frames (began_stands checked level input limit))
