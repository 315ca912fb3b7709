-- Which checked sources can be run so far, and what their run leaves.
use Rattle.std.specs.Prelude.{◌≡◌, ◌≢◌, ◌<◌, ◌≤◌, All, [], length, map}
use Rattle.cl_tree.specs.declared.kinds.IntKind.TheVariants.{I32}
use Rattle.cl_tree.specs.declared.tree.CType.TheVariants.{Integer}
use Rattle.cl_mean.specs.declared.checked.Checked.{Checked}
use Rattle.cl_mean.specs.declared.checked.GedlRow.{GedlRow}
use Rattle.cl_mean.specs.declared.outcome.End.{End}
use Rattle.cl_run.specs.declared.state.State.{State}
use Rattle.cl_run.specs.FormJournal.{journal}
use Rattle.cl_run.specs.FormMeaning.{Outcome}
use Rattle.hal_route.specs.Hal.{State as HalState}

-- a row by which the level of `main` calls a function of another level, which takes nothing and gives an `int`
pub record IsServedRow (checked : Checked) (row : GedlRow) : Type 0 where
  pub from : row.from ≡ checked.levels.main
  pub to : row.to < length checked.labels.levels
  pub other : row.to ≢ checked.levels.main
  pub args : row.args ≡ []
  pub result : row.result ≡ Integer I32
  pub request : row.request ≡ 0
  pub reply : row.reply ≡ 4

-- a checked source that can be run so far: one such row at most
pub record IsServed (checked : Checked) : Type 0 where
  pub level : checked.levels.main < length checked.labels.levels
  pub main : checked.gedl.main ≡ checked.levels.main
  pub functions : 0 < length checked.typed.functions
  pub few : length checked.gedl.rows ≤ 1
  pub rows : All (IsServedRow checked) checked.gedl.rows

-- what a run leaves is what the meaning says: the outputs of the levels, the frames in the router's journal, and the end
pub record IsRun (checked : Checked) (state : State) (hal : HalState) (end : End) (outcome : Outcome) : Type 0 where
  pub outputs : outcome.outputs ≡ map (λ l. l.output) state.levels
  pub journal : hal.journal ≡ journal checked.gedl.rows outcome.crossings
  pub frames : hal.frames ≡ length outcome.crossings
  pub ends : outcome.end ≡ end
