-- A level's own run, frame by frame: one frame more is one step more, and a level that is over stays as it is.
use Rattle.std.proofs.Common.{◌≡◌, ℕ, List, [], ◌∷◌, ◌++◌, refl, ap, ◌∙◌, Bool, true, false, if◌then◌else◌}
use Rattle.cl_mean.specs.declared.checked.Checked.{Checked}
use Rattle.cl_mean.specs.State.{State}
use Rattle.cl_mean.specs.Source.{Source, source_of}
use Rattle.cl_mean.specs.Journal.{Frame, Said}
use Rattle.cl_mean.specs.LocalRun.{is_turn, Stand, over, LevelRun, stays, acts, acted, acted_all, began, level_run}
use Rattle.mean_laws.specs.Runs.{IsOver}
use Rattle.cl_mean.specs.Meaning.{bound_of}

pub one_more : (source : Source) (bound level : ℕ) (l : LevelRun) (xs : List Frame) (x : Frame) → acted_all source bound level l (xs ++ x ∷ []) ≡ acted source bound level (acted_all source bound level l xs) x
unfolding acted_all
one_more source bound level l [] x = refl
one_more source bound level l (y ∷ ys) x = one_more source bound level (acted source bound level l y) ys x

pub local_more : (checked : Checked) (level : ℕ) (input : List ℕ) (limit : ℕ) (xs : List Frame) (x : Frame)
    → level_run checked level input limit (xs ++ x ∷ []) ≡ acted (source_of checked) (bound_of checked limit) level (level_run checked level input limit xs) x
unfolding level_run
local_more checked level input limit xs x = one_more (source_of checked) (bound_of checked limit) level (began checked level input limit) xs x

-- ---- a level that is over

if_same : (q : Bool) (l : LevelRun) → (if q then l else l) ≡ l
if_same true l = refl
if_same false l = refl

over_is : (source : Source) (bound level turn : ℕ) (l : LevelRun) (said : Said) (s : Stand) (state : State) → s ≡ over state → acts source bound level turn (stays s l) s said ≡ stays s l
over_is source bound level turn l said s state e = rw e refl

pub over_stays : (source : Source) (bound level : ℕ) (l : LevelRun) (x : Frame) → IsOver l → acted source bound level l x ≡ l
unfolding acted
over_stays source bound level l x o =
    ap (λ (z : LevelRun). if is_turn x.turn then z else l) (over_is source bound level x.turn l x.said l.stand o.0 o.1) ∙ if_same (is_turn x.turn) l

pub local_over : (checked : Checked) (level : ℕ) (input : List ℕ) (limit : ℕ) (xs : List Frame) (x : Frame)
    → IsOver (level_run checked level input limit xs) → level_run checked level input limit (xs ++ x ∷ []) ≡ level_run checked level input limit xs
local_over checked level input limit xs x o =
    local_more checked level input limit xs x ∙ over_stays (source_of checked) (bound_of checked limit) level (level_run checked level input limit xs) x o
