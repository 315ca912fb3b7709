-- A run stands at its start.
use Rattle.std.proofs.Common.{◌≡◌, ℕ, zero, suc, List, [], ◌∷◌, length, map, refl, ap, arith}
use Rattle.cl_tree.specs.Words.{Word}
use Rattle.cl_mean.specs.declared.checked.Checked.{Checked}
use Rattle.cl_run.specs.FormJournal.{journal, journal_from}
use Rattle.cl_run.specs.FormMeaning.{start_of}
use Rattle.cl_run.specs.FormState.{cost_at, silent}
use Rattle.hal_route.specs.Hal.{channels_of}
use Rattle.cl_run.specs.declared.running.Running.{Running}
use Rattle.cl_run.specs.Steps.{Stands}

no_cost : (names : List Word) (level : ℕ) → cost_at (map (λ _. silent) names) level ≡ 0
no_cost [] level = refl
no_cost (n ∷ ns) zero = refl
no_cost (n ∷ ns) (suc level) = no_cost ns level

same_count : (names : List Word) → length (map (λ _. silent) names) ≡ length names
same_count [] = refl
same_count (n ∷ ns) = ap (λ (k : ℕ). suc k) (same_count ns)

pub start_stands : (checked : Checked) (run : Running) → run.state ≡ start_of checked → run.hal ≡ record { channels = channels_of checked.gedl.rows; main = checked.gedl.main; journal = []; frames = 0 } → Stands checked run
unfolding journal journal_from
start_stands checked run state hal = record {
  levels = rw state (same_count checked.labels.levels);
  channels = rw hal refl;
  main = rw hal refl;
  journal = rw (hal, state) refl;
  frames = rw (hal, state) refl;
  cost = rw (state, no_cost checked.labels.levels checked.levels.main) (omega arith);
  room = rw hal (omega arith);
}
