-- What statements do (C11 6.8).
use Rattle.std.specs.Prelude.{ℕ, List, [], ◌∷◌, length, nat_lt, if◌then◌else◌, ℤ, Ok, Option, Some, None, codes, slice_index_or}
use Rattle.std.specs.Str.{bytes_eq}
use Rattle.cl_tree.specs.declared.kinds.IntKind.TheVariants.{U8}
use Rattle.cl_tree.specs.declared.kinds.TrapCause.TheVariants.{Output}
use Rattle.cl_tree.specs.declared.tree.Expr.{Expr}
use Rattle.cl_tree.specs.declared.tree.Node.{Node, Node-F, out-Node}
use Rattle.cl_tree.specs.declared.tree.Node.TheOpen as node
use Rattle.cl_tree.specs.declared.tree.Stmt.{Stmt, fold-Stmt}
use Rattle.cl_tree.specs.declared.tree.Act.{Act-F}
use Rattle.cl_tree.specs.declared.tree.Act.TheOpen as act
use Rattle.cl_tree.specs.Arithmetic.{value, residue}
use Rattle.cl_run.specs.declared.flow.Flow.{Flow}
use Rattle.cl_run.specs.declared.flow.Flow.TheVariants.{GoesOn, Returns}
use Rattle.cl_run.specs.declared.state.Context.{Context}
use Rattle.cl_run.specs.FormState.{Step, pure, trapped, output_at, with_byte, with_number, no_object, ◌>>=◌}
use Rattle.cl_run.specs.FormEvaluation.{Scope, place_of, value_of}

-- one byte more in the output of the level; its room is a limit, and the trap names the call's line
unfoldable pub written : Context → ℕ → ℕ → Step Flow
written context line byte state =
    if nat_lt (length (output_at state.levels context.level)) 1000000
    then Ok (GoesOn, record state { levels = with_byte state.levels context.level byte })
    else trapped context Output line state

-- `putchar` writes the low 8 bits of its argument
abbrev pub put : Context → ℕ → ℤ → Step Flow
put context line n = written context line (residue U8 n)

-- a call as a statement
abbrev pub called : Scope → Context → ℕ → Node-F Node Expr → Step Flow
called scope context line (node.Call name (e ∷ [])) =
    if bytes_eq name (codes "putchar") then value_of scope context e >>= put context line else pure GoesOn
called scope context line _ = pure GoesOn

-- `return` gives its value in the kind of the function's result
abbrev pub returned : Context → ℤ → Step Flow
returned context n = pure (Returns (value context.returns n))

-- a number is stored in the kind of its object
abbrev pub stored : Option ℕ → ℤ → Step Flow
stored None n = pure GoesOn
stored (Some place) n = λ state.
    Ok (GoesOn, record state { objects = with_number state.objects place (value (slice_index_or state.objects place no_object).kind n) })

-- `=` to a variable
abbrev pub assigned : Scope → Node-F Node Expr → ℤ → Step Flow
assigned scope (node.Variable name) n = stored (place_of scope.objects name) n
assigned scope _ n = pure GoesOn

abbrev pub act_run : Scope → Context → Act-F (ℕ → ℕ → Step Flow) (Step Flow) → ℕ → ℕ → Step Flow
act_run scope context (act.Call e) line second = called scope context line (out-Node e.node)
act_run scope context (act.Set None place e) line second = value_of scope context e >>= assigned scope (out-Node place.node)
act_run scope context (act.Return (Some e)) line second = value_of scope context e >>= returned context
act_run scope context _ line second = pure GoesOn

unfoldable pub run : Scope → Context → Stmt → Step Flow
run scope context = fold-Stmt (ℕ → ℕ → Step Flow) (Step Flow) (act_run scope context) (λ s. s.node s.line s.second)

abbrev pub after : Step Flow → Flow → Step Flow
after rest GoesOn = rest
after rest (Returns n) = pure (Returns n)

-- statements in order, up to one that returns
abbrev pub in_turn : List (Step Flow) → Step Flow
in_turn [] = pure GoesOn
in_turn (s ∷ ss) = s >>= after (in_turn ss)
