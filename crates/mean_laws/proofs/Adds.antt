-- What one frame more adds to a level's own run: at most one frame, of the turn behind it; nothing to a stop frame. These are the
-- laws that the joined run asks of a level.
use Rattle.std.proofs.Common.{◌≡◌, ℕ, List, [], ◌∷◌, ◌++◌, refl, sym, subst, Bool, true, false, ◌==◌, ◌&&◌, if◌then◌else◌, Option, Some, None, ℤ}
use Rattle.cl_mean.specs.declared.checked.Checked.{Checked}
use Rattle.cl_mean.specs.Shape.{kinds_of}
use Rattle.cl_mean.specs.State.{State}
use Rattle.cl_mean.specs.Source.{Definition, Source, source_of, is_main_at, payload_of}
use Rattle.cl_mean.specs.Course.{Course, Reply}
use Rattle.cl_mean.specs.Value.{Labelled}
use Rattle.cl_mean.specs.Guarded.{Content, holds, blocked, broken}
use Rattle.cl_mean.specs.Journal.{Frame, Said, says_stop, message}
use Rattle.cl_mean.specs.LocalRun.{is_turn, is_fitting, is_content, Role, serving, Stand, rests, waits, over, LevelRun, stays, follows, begins, serving_of, row_at, function_served, answered, acts, acted, acted_all, level_run, began}
use Rattle.cl_mean.specs.Meaning.{bound_of}
use Rattle.mean_laws.specs.Runs.{Adds, nothing_more, one_frame}
use Rattle.mean_laws.proofs.LocalRuns.{local_more}

module _ (source : Source) (bound level : ℕ) where
  begins_adds : (turn : ℕ) (state : State) (l : LevelRun) (k : ℕ) (content : Content ℤ) (o : Option Definition) → Adds turn (message k false content) l.sent (begins source bound level turn state l k content o).sent
  begins_adds turn state l k (holds ns) (Some d) = by_fit (is_fitting (kinds_of (payload_of d false)) ns)
    where
      by_fit : (q : Bool) → Adds turn (message k false (holds ns)) l.sent (if q then follows level (serving k) turn l (serving_of source bound d ns state) else stays (rests state) l).sent
      by_fit true = one_frame _ refl refl refl
      by_fit false = nothing_more refl
  begins_adds turn state l k (holds ns) None = nothing_more refl
  begins_adds turn state l k blocked o = nothing_more refl
  begins_adds turn state l k broken o = nothing_more refl

  answered_adds : (role : Role) (turn : ℕ) (state : State) (rest : Reply → State → Course (List Labelled)) (l : LevelRun) (k : ℕ) (content : Content ℤ) → Adds turn (message k true content) l.sent (answered level role turn state rest l content).sent
  answered_adds role turn state rest l k (holds ns) = one_frame _ refl refl refl
  answered_adds role turn state rest l k blocked = one_frame _ refl refl refl
  answered_adds role turn state rest l k broken = one_frame _ refl refl refl

  either_adds : (turn : ℕ) (said : Said) (before : List Frame) (q : Bool) (a b : LevelRun) → Adds turn said before a.sent → Adds turn said before b.sent → Adds turn said before (if q then a else b).sent
  either_adds turn said before true a b h k = h
  either_adds turn said before false a b h k = k

  acts_adds : (turn : ℕ) (l : LevelRun) (s : Stand) (said : Said) → Adds turn said l.sent (acts source bound level turn l s said).sent
  acts_adds turn l (over state) said = nothing_more refl
  acts_adds turn l (rests state) says_stop = nothing_more refl
  acts_adds turn l (rests state) (message k false content) = begins_adds turn state l k content (function_served source level (row_at source.rows k))
  acts_adds turn l (rests state) (message k true content) = nothing_more refl
  acts_adds turn l (waits role a state rest) says_stop = nothing_more refl
  acts_adds turn l (waits role a state rest) (message k false content) = nothing_more refl
  acts_adds turn l (waits role a state rest) (message k true content) =
      either_adds turn (message k true content) l.sent ((k == a.row) && is_content (kinds_of (payload_of a.callee true)) content) (answered level role turn state rest l content) (stays (waits role a state rest) l)
      (answered_adds role turn state rest l k content) (nothing_more refl)

  pub acted_adds : (l : LevelRun) (f : Frame) → Adds f.turn f.said l.sent (acted source bound level l f).sent
  unfolding acted
  acted_adds l f = either_adds f.turn f.said l.sent (is_turn f.turn) (acts source bound level f.turn l l.stand f.said) l (acts_adds f.turn l l.stand f.said) (nothing_more refl)

pub local_adds : (checked : Checked) (level : ℕ) (input : List ℕ) (limit : ℕ) (xs : List Frame) (x : Frame)
    → Adds x.turn x.said (level_run checked level input limit xs).sent (level_run checked level input limit (xs ++ x ∷ [])).sent
local_adds checked level input limit xs x =
    subst (λ (z : LevelRun). Adds x.turn x.said (level_run checked level input limit xs).sent z.sent) (sym (local_more checked level input limit xs x))
    (acted_adds (source_of checked) (bound_of checked limit) level (level_run checked level input limit xs) x)

-- ---- before the first frame

-- A level other than that of `main` begins with nothing sent, at rest.
pub quiet : (checked : Checked) (level : ℕ) (input : List ℕ) (limit : ℕ) → is_main_at (source_of checked) level ≡ false → (level_run checked level input limit []).sent ≡ []
unfolding level_run began acted_all
quiet checked level input limit e = rw e refl

-- The level of `main` begins with one frame, of turn 1.
pub first : (checked : Checked) (level : ℕ) (input : List ℕ) (limit : ℕ) → is_main_at (source_of checked) level ≡ true → (f : Frame) × (f.turn ≡ 1) × ((level_run checked level input limit []).sent ≡ f ∷ [])
unfolding level_run began acted_all
first checked level input limit e = rw e (_, refl, refl)
