-- What calls mean at the two levels.
use Rattle.std.proofs.Common.{◌≡◌, ◌≢◌, ℕ, zero, suc, ◌-◌, ◌≤◌, ◌<◌, List, [], ◌∷◌, length, None, refl, sym, ◌∙◌, arith, All, Ok, pos}
use Rattle.std.proofs.lemmas.Bool.{ne_eqb}
use Rattle.cl_tree.specs.Words.{Word}
use Rattle.cl_mean.specs.declared.checked.Checked.{Checked}
use Rattle.cl_mean.specs.declared.checked.GedlRow.{GedlRow}
use Rattle.cl_run.specs.declared.state.Context.{Context}
use Rattle.cl_run.specs.declared.state.State.{State}
use Rattle.cl_run.specs.FormExecution.{run}
use Rattle.cl_run.specs.FormCalls.{by_row, call_at, defined, guarded, row_from, scope_at, served}
use Rattle.cl_run.specs.Runs.{IsServed, IsServedRow}

-- no row begins at another level than that of `main`
no_row : (checked : Checked) (rows : List GedlRow) (k level : ℕ) (name : Word) → level ≢ checked.levels.main → length rows ≤ 1 → All (IsServedRow checked) rows → row_from k rows level name ≡ None
unfolding row_from
no_row checked [] k level name away few all = refl
no_row checked (row ∷ []) k level name away few all =
    let from : row.from ≡ checked.levels.main = (all 0 row (omega arith)).from in
    let other : row.from ≢ level = λ e. away (sym e ∙ from) in
    rw (ne_eqb row.from level other) refl
no_row checked (row ∷ s ∷ rs) k level name away few all = absurd (omega arith)

pub far_call : (checked : Checked) (depth line : ℕ) (context : Context) (name : Word) (state : State) → IsServed checked → context.level ≢ checked.levels.main → call_at checked depth context line name state ≡ Ok (pos 0, state)
unfolding call_at
far_call checked zero line context name state served away = refl
far_call checked (suc depth) line context name state served away = rw (no_row checked checked.gedl.rows 0 context.level name away served.few served.rows) refl

-- a call at a depth that is not zero is that of its row
pub near_call : (checked : Checked) (depth line : ℕ) (context : Context) (name : Word) → 0 < depth → call_at checked depth context line name ≡ by_row (guarded (λ row. served (run (scope_at checked (depth - 1))) row.to (defined row.name checked.typed.program.items)) context line) (row_from 0 checked.gedl.rows context.level name)
unfolding call_at
near_call checked zero line context name some = absurd (omega arith)
near_call checked (suc depth) line context name some = let e : suc depth - 1 ≡ depth = omega arith in rw e refl
