-- The guarded run of `main`, from states that differ in labels alone, and under a greater bound.
use Rattle.std.proofs.Common.{ℕ, ◌≤◌, List, refl, Option, Some, None, inr}
use Rattle.cl_mean.specs.declared.checked.Checked.{Checked}
use Rattle.cl_mean.specs.declared.law.Law.{Law}
use Rattle.cl_mean.specs.State.{State}
use Rattle.cl_mean.specs.Source.{Definition, Source, source_of, main_of}
use Rattle.cl_mean.specs.Course.{Stop}
use Rattle.cl_mean.specs.Calls.{far, unguarded}
use Rattle.cl_mean.specs.Guarded.{serves_at}
use Rattle.cl_mean.specs.Meaning.{exit_value, main_run, main_course, guarded_start}
use Rattle.mean_laws.specs.Alike.{Nums, LevelsAll, SideBySide}
use Rattle.mean_laws.specs.Runs.{IsUnbounded, Never, SameOutcome, run_from}
use Rattle.mean_laws.proofs.Alike.{by_states, ends_then, Bounds, bound_same, Endings}
use Rattle.mean_laws.proofs.AllLevels.{SamePlace, all_respect}
use Rattle.mean_laws.proofs.PlainRuns.{body_plain, levels_refl}
use Rattle.mean_laws.proofs.Exits.{exit_like}
use Rattle.mean_laws.proofs.GuardedRuns

module _ (Lax : Stop → Type 0) where
  main_alike : (source : Source) (n n' : ℕ) → Bounds Lax n n' → (o : Option Definition) (s t : State) → LevelsAll s t → SideBySide LevelsAll Lax Nums (main_run source (far source) n o s) (main_run source (far source) n' o t)
  main_alike source n n' b None s t r = inr (refl, r)
  main_alike source n n' b (Some d) s t r = ends_then LevelsAll Lax (Endings SamePlace) Nums _ _ exit_value exit_value (GuardedRuns.main_alike Lax source n n' b d s t r) (exit_like (by_states LevelsAll Lax) SamePlace)

  pub plain_main : (source : Source) (n n' : ℕ) → Bounds Lax n n' → (o : Option Definition) (s t : State) → LevelsAll s t → SideBySide LevelsAll Lax Nums (main_run source (unguarded source) n o s) (main_run source (unguarded source) n' o t)
  plain_main source n n' b None s t r = inr (refl, r)
  plain_main source n n' b (Some d) s t r = ends_then LevelsAll Lax (Endings SamePlace) Nums _ _ exit_value exit_value (body_plain (by_states LevelsAll Lax) (all_respect Lax) source tt n n' b d s t r) (exit_like (by_states LevelsAll Lax) SamePlace)

  pub whole : (checked : Checked) (law : Law) (houses : List Law) (n n' : ℕ) → Bounds Lax n n' → (s t : State) → LevelsAll s t → SameOutcome Lax (run_from checked law houses n s) (run_from checked law houses n' t)
  unfolding main_course
  whole checked law houses n n' b s t r =
      GuardedRuns.guarded_alike Lax Nums (serves_at (source_of checked) n n) (serves_at (source_of checked) n' n') (GuardedRuns.serves_alike Lax (source_of checked) n n' b n n' b) _ _
      (main_alike (source_of checked) n n' b (main_of (source_of checked)) s t r) (guarded_start law houses) (guarded_start law houses) (refl, refl, tt)

pub labels : (checked : Checked) (law : Law) (houses : List Law) (bound : ℕ) (s t : State) → LevelsAll s t → SameOutcome Never (run_from checked law houses bound s) (run_from checked law houses bound t)
labels checked law houses bound s t r = whole Never checked law houses bound bound (bound_same Never bound) s t r

pub greater : (checked : Checked) (law : Law) (houses : List Law) (least most : ℕ) (state : State) → least ≤ most → SameOutcome IsUnbounded (run_from checked law houses least state) (run_from checked law houses most state)
greater checked law houses least most state le = whole IsUnbounded checked law houses least most (le, λ l. refl) state state (levels_refl state)

pub plain_greater : (checked : Checked) (least most : ℕ) (state : State) → least ≤ most → SideBySide LevelsAll IsUnbounded Nums (main_course checked (unguarded (source_of checked)) least state) (main_course checked (unguarded (source_of checked)) most state)
unfolding main_course
plain_greater checked least most state le = plain_main IsUnbounded (source_of checked) least most (le, λ l. refl) (main_of (source_of checked)) state state (levels_refl state)
