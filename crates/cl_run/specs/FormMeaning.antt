-- The meaning of a checked source: what each level writes, what crosses between levels, and how the run ends.
use Rattle.std.specs.Prelude.{ℕ, List, [], ◌∷◌, map, length, Result, Ok, Err, Option, Some, None, pos, codes}
use Rattle.cl_tree.specs.declared.kinds.IntKind.TheVariants.{I32}
use Rattle.cl_tree.specs.declared.tree.Stmt.{Stmt}
use Rattle.cl_mean.specs.declared.checked.Checked.{Checked}
use Rattle.cl_mean.specs.declared.checked.ObjFact.{ObjFact}
use Rattle.cl_run.specs.declared.crossing.Crossing.{Crossing}
use Rattle.cl_run.specs.declared.state.Object.{Object}
use Rattle.cl_run.specs.declared.state.State.{State}
use Rattle.cl_run.specs.declared.flow.Flow.{Flow}
use Rattle.cl_run.specs.declared.flow.Flow.TheVariants.{GoesOn, Returns}
use Rattle.cl_mean.specs.declared.outcome.End.{End}
use Rattle.cl_mean.specs.declared.outcome.End.TheVariants.{Exit, Trapped}
use Rattle.cl_run.specs.declared.state.Context.{Context}
use Rattle.cl_run.specs.FormState.{Halt, silent}
use Rattle.cl_run.specs.FormExecution.{run, in_turn}
use Rattle.cl_run.specs.FormCalls.{Definition, defined, kind_of, scope_at}

-- objects of static duration start at zero, each at its level
unfoldable pub objects_at : List ObjFact → List ℕ → List Object
objects_at (o ∷ os) (level ∷ levels) = record { level = level; kind = kind_of o.ctype; number = pos 0 } ∷ objects_at os levels
objects_at _ _ = []

-- `main` runs at its level and returns an `int`
abbrev pub main_context : Checked → Context
main_context checked = record { level = checked.levels.main; returns = I32 }

-- the state at the start of a run
abbrev pub start_of : Checked → State
start_of checked = record {
  levels = map (λ _. silent) checked.labels.levels;
  objects = objects_at checked.typed.objects checked.levels.of_objects;
  crossings = [];
}

-- what a run leaves: the outputs of the levels in order, what crossed, and its end
pub record Outcome : Type 0 where
  pub outputs : List (List ℕ)
  pub crossings : List Crossing
  pub end : End

abbrev pub left : State → End → Outcome
left state end = record { outputs = map (λ l. l.output) state.levels; crossings = state.crossings; end = end }

-- `main` that reaches its end returns 0
abbrev pub outcome_of : Result (Flow × State) Halt → Outcome
outcome_of (Ok (GoesOn, state)) = left state (Exit (pos 0))
outcome_of (Ok (Returns n, state)) = left state (Exit n)
outcome_of (Err halt) = left halt.state (Trapped halt.level halt.trap)

-- the statements of a definition, if there is one
abbrev pub statements_of : Option Definition → List Stmt
statements_of None = []
statements_of (Some d) = d.statements

-- The guarded meaning: `main` runs, and calls nest no deeper than there are functions.
unfoldable pub mean : Checked → Outcome
mean checked =
    outcome_of (in_turn (map (run (scope_at checked (length checked.typed.functions)) (main_context checked)) (statements_of (defined (codes "main") checked.typed.program.items))) (start_of checked))
