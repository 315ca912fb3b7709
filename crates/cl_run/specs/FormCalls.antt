-- What a call does that crosses from one level to another.
use Rattle.std.specs.Prelude.{ℕ, zero, suc, Bool, ◌+◌, ℤ, true, false, List, [], ◌∷◌, ◌++◌, map, Result, Ok, Err, Option, Some, None, nat_le, bytes_eq, ◌==◌, ◌&&◌, if◌then◌else◌}
use Rattle.cl_tree.specs.declared.kinds.IntKind.{IntKind}
use Rattle.cl_tree.specs.declared.kinds.TrapCause.TheVariants.{Return, Frames}
use Rattle.cl_tree.specs.declared.kinds.IntKind.TheVariants.{I32}
use Rattle.cl_tree.specs.declared.tree.CType.{CType, CType-F, out-CType}
use Rattle.cl_tree.specs.declared.tree.CType.TheOpen as ctype
use Rattle.cl_tree.specs.declared.tree.CType.TheVariants.{Integer}
use Rattle.cl_tree.specs.declared.tree.Stmt.{Stmt}
use Rattle.cl_tree.specs.declared.tree.Item.{Item}
use Rattle.cl_tree.specs.declared.tree.Item.TheVariants.{Function}
use Rattle.cl_tree.specs.Arithmetic.{value}
use Rattle.cl_tree.specs.Words.{Word}
use Rattle.cl_mean.specs.declared.checked.GedlRow.{GedlRow}
use Rattle.cl_mean.specs.declared.checked.Checked.{Checked}
use Rattle.cl_run.specs.declared.crossing.Content.{Content}
use Rattle.cl_run.specs.declared.crossing.Content.TheVariants.{Values, Broken}
use Rattle.cl_run.specs.declared.crossing.Crossing.{Crossing}
use Rattle.cl_run.specs.declared.flow.Flow.{Flow}
use Rattle.cl_run.specs.declared.flow.Flow.TheVariants.{GoesOn, Returns}
use Rattle.cl_run.specs.declared.state.Context.{Context}
use Rattle.cl_run.specs.declared.state.State.{State}
use Rattle.cl_run.specs.FormState.{Halt, Step, pure, trapped, cost_at, with_cost, ◌>>=◌}
use Rattle.cl_run.specs.FormEvaluation.{Scope, unsettled}
use Rattle.cl_run.specs.FormExecution.{run, in_turn}

-- the definition of a function with a result: its statements, the kind of the result, and the line of its name
pub record Definition : Type 0 where
  pub statements : List Stmt
  pub returns : IntKind
  pub line : ℕ

unfoldable pub definition : Word → Item → Option Definition
definition name (Function _ (Integer kind) called _ _ (Some body) line second) =
    if bytes_eq called name then Some (record { statements = body; returns = kind; line = second }) else None
definition name _ = None

-- the first definition of a name
abbrev pub defined : Word → List Item → Option Definition
defined name [] = None
defined name (item ∷ items) = found (definition name item) (defined name items)
  where
    found : Option Definition → Option Definition → Option Definition
    found None rest = rest
    found (Some d) rest = Some d

-- the row by which a level calls a function, and its number, counted from the one given
unfoldable pub row_from : ℕ → List GedlRow → ℕ → Word → Option (ℕ × GedlRow)
row_from k [] level name = None
row_from k (row ∷ rows) level name = if (row.from == level) && bytes_eq row.name name then Some (k, row) else row_from (suc k) rows level name

-- what the two frames of a call cost the level that makes it: two headers and two payloads
abbrev pub cost_of : GedlRow → ℕ
cost_of row = 50 + (row.request + row.reply)

-- A level pays for a call, or traps where its budget is spent.
unfoldable pub paid : Context → ℕ → ℕ → Step (Unit {0})
paid context cost line state =
    if nat_le (cost_at state.levels context.level + cost) 8388608
    then Ok (tt, record state { levels = with_cost state.levels context.level (cost_at state.levels context.level + cost) })
    else trapped context Frames line state

abbrev pub crossing : ℕ → Bool → Content → Crossing
crossing k reply content = record { row = k; reply = reply; content = content }

abbrev pub with_crossing : State → Crossing → State
with_crossing state c = record state { crossings = state.crossings ++ c ∷ [] }

-- something crosses
abbrev pub crosses : Crossing → Step (Unit {0})
crosses c = λ state. Ok (tt, with_crossing state c)

-- a call that a trap breaks off has a broken reply
abbrev pub broken_off : ℕ → Result (ℤ × State) Halt → Result (ℤ × State) Halt
broken_off k (Ok r) = Ok r
broken_off k (Err halt) = Err (record { level = halt.level; trap = halt.trap; state = with_crossing halt.state (crossing k true Broken) })

-- the kind of an integer type; structs and arrays come with their stage
abbrev pub kind_of_level : {A : Type 0} → CType-F A → IntKind
kind_of_level (ctype.Integer kind) = kind
kind_of_level _ = I32

unfoldable pub kind_of : CType → IntKind
kind_of t = kind_of_level (out-CType t)

-- what a reply of a row makes of a number: its value in the kind of the result
abbrev pub replied : GedlRow → ℤ → ℤ
replied row n = value (kind_of row.result) n

-- The guarded call of a row: the caller pays, the request crosses, the callee serves it, the reply crosses.
abbrev pub guarded : (GedlRow → Step ℤ) → Context → ℕ → ℕ × GedlRow → Step ℤ
guarded serve context line row =
    paid context (cost_of row.1) line >>= λ _.
    crosses (crossing row.0 false (Values [])) >>= λ _.
    (λ state. broken_off row.0 (serve row.1 state)) >>= λ n.
    crosses (crossing row.0 true (Values (replied row.1 n ∷ []))) >>= λ _.
    pure (replied row.1 n)

-- a function with a result that reaches its end traps at its name
abbrev pub result_of : Context → ℕ → Flow → Step ℤ
result_of context line GoesOn = trapped context Return line
result_of context line (Returns n) = pure n

-- the body of a function runs at its level
abbrev pub served : (Context → Stmt → Step Flow) → ℕ → Option Definition → Step ℤ
served runs level None = unsettled
served runs level (Some d) = in_turn (map (runs (at d)) d.statements) >>= result_of (at d) d.line
  where
    at : Definition → Context
    at d = record { level = level; returns = d.returns }

abbrev pub by_row : (ℕ × GedlRow → Step ℤ) → Option (ℕ × GedlRow) → Step ℤ
by_row call None = unsettled
by_row call (Some row) = call row

-- What a call does, up to a depth of calls. Calls within a level come with their stage.
unfoldable pub call_at : Checked → ℕ → Context → ℕ → Word → Step ℤ
call_at checked zero context line name = unsettled
call_at checked (suc depth) context line name =
    by_row (guarded (λ row. served (run (record { objects = checked.typed.objects; call = call_at checked depth })) row.to (defined row.name checked.typed.program.items)) context line) (row_from 0 checked.gedl.rows context.level name)

-- the scope of a body at a depth
abbrev pub scope_at : Checked → ℕ → Scope
scope_at checked depth = record { objects = checked.typed.objects; call = call_at checked depth }
