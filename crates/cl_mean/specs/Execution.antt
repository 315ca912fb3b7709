-- What statements do (C11 6.8).
use Rattle.std.specs.Prelude.{ℕ, zero, suc, ◌+◌, ◌==◌, Bool, true, false, pos, List, [], ◌∷◌, map, length, Option, Some, None, if◌then◌else◌, bytes_eq, codes}
use Rattle.cl_tree.specs.declared.kinds.IntKind.TheVariants.{U8, I32}
use Rattle.cl_tree.specs.declared.kinds.BinOp.{BinOp}
use Rattle.cl_tree.specs.declared.kinds.BinOp.TheVariants.{Add, Sub}
use Rattle.cl_tree.specs.declared.tree.Expr.{Expr}
use Rattle.cl_tree.specs.declared.tree.Node.{Node, Node-F, out-Node}
use Rattle.cl_tree.specs.declared.tree.Node.TheOpen as node
use Rattle.cl_tree.specs.declared.tree.Init.{Init, Init-F, fold-Init}
use Rattle.cl_tree.specs.declared.tree.Init.TheOpen as init
use Rattle.cl_tree.specs.declared.tree.Declarator.{Declarator}
use Rattle.cl_tree.specs.declared.tree.Stmt.{Stmt, fold-Stmt}
use Rattle.cl_tree.specs.declared.tree.Act.{Act-F, map-Act}
use Rattle.cl_tree.specs.declared.tree.Act.TheOpen as act
use Rattle.cl_tree.specs.Arithmetic.{residue}
use Rattle.cl_tree.specs.Words.{Word}
use Rattle.cl_mean.specs.declared.labels.Mention.{Mention}
use Rattle.cl_mean.specs.Value.{Labelled, bare, carries_just, Value, number, no_value, each}
use Rattle.cl_mean.specs.Shape.{Shape, nothing, part_in, shape_of, zero_of}
use Rattle.cl_mean.specs.State.{Place, Written, deeper, put_byte, count_step}
use Rattle.cl_mean.specs.Source.{Root, open_to_all, admits, labelled, Binding, Env, Definition, is_annotated, act_statics}
use Rattle.cl_mean.specs.Course.{Computation, unbounded, meaningless, pure, halted, the_number, within, fetched, stored, made, ◌>>=◌, ◌>>◌}
use Rattle.cl_mean.specs.Evaluation.{Spot, Meaning, Scope, meaning_of, spot_of, kind_of, integer_of, as_kind, in_type, is_true, operand, applied, working_kind, right_kind, computed}
use Rattle.cl_mean.specs.Printing.{Piece, conversions, pieces_of, printed}

-- ---- how a statement ends

-- it goes on, with the names known behind it; it breaks, continues, or returns a value
pub data Ending : Type 0 where
  goes_on : Env → Ending
  breaks : Ending
  continues : Ending
  returns : Value → Ending

-- a statement that goes on is followed by the next
abbrev pub then_next : (Env → Computation Ending) → Ending → Computation Ending
then_next next (goes_on env) = next env
then_next next breaks = pure breaks
then_next next continues = pure continues
then_next next (returns v) = pure (returns v)

-- behind a block the names of its outside are known again
abbrev pub closed : Env → Ending → Ending
closed env (goes_on inner) = goes_on env
closed env breaks = breaks
closed env continues = continues
closed env (returns v) = returns v

abbrev pub scoped : Env → Computation Ending → Computation Ending
scoped env inner = inner >>= λ ending. pure (closed env ending)

-- What a statement is: how many static locals it declares; and what it does, given the number of the first of these in its
-- function, and the names that are known.
pub record Doing : Type 0 where
  pub statics : List Declarator
  pub run : ℕ → Env → Computation Ending

-- the number of the first static local of what follows a statement
abbrev pub next_static : ℕ → Doing → ℕ
next_static k s = k + length s.statics

-- statements in order
abbrev pub in_turn : List Doing → ℕ → Env → Computation Ending
in_turn [] k env = pure (goes_on env)
in_turn (s ∷ ss) k env = s.run k env >>= then_next (in_turn ss (next_static k s))

abbrev pub if_there : Option Doing → ℕ → Env → Computation Ending
if_there None k env = pure (goes_on env)
if_there (Some s) k env = s.run k env

-- ---- stores

-- the labels that a store through a name gives, beside the object's own
abbrev pub labels_stored : Bool → Root → List Mention → List Mention
labels_stored in_annotated open_to_all labels = labels
labels_stored in_annotated (admits taints) labels = taints
labels_stored true labelled labels = []
labels_stored false labelled labels = labels

abbrev pub relabelled : Bool → Root → Labelled → Labelled
relabelled in_annotated root x = carries_just (labels_stored in_annotated root x.labels) x

-- a value of the right type is stored at a place
abbrev pub put : Definition → Spot → Value → Computation Ending → Computation Ending
put here s v next = stored s.place (each (relabelled (is_annotated here) s.root) v) >> next

-- `=`: the indexes of the left side, the right side, the store
abbrev pub assigned : Definition → Meaning → Meaning → Computation Ending → Computation Ending
assigned here target m next = spot_of target >>= λ s. in_type target.shape m >>= λ v. put here s v next

-- `op=`: the indexes of the left side, the old value, the right side, the operator, the store
abbrev pub updated : Definition → BinOp → ℕ → Meaning → Meaning → Computation Ending → Computation Ending
updated here op line target m next =
    spot_of target >>= λ s.
    fetched s.place >>= the_number >>= λ old.
    operand (right_kind op (kind_of target) (kind_of m)) m >>= λ y.
    let kind = working_kind op (kind_of target) (kind_of m) in
    applied here.level line op kind (as_kind kind old) y >>= λ x.
    put here s (number (as_kind (kind_of target) x)) next

-- `++` and `--` add and subtract the `int` 1
abbrev pub one : Meaning
one = computed I32 (pure (bare (pos 1)))

abbrev pub set_by : Definition → Option BinOp → ℕ → Meaning → Meaning → Computation Ending → Computation Ending
set_by here None line target m next = assigned here target m next
set_by here (Some op) line target m next = updated here op line target m next

-- ---- initialisers

-- What an initialiser puts into an object that is zero: its expressions in order, each at its place.
abbrev pub Filling : Type 0
Filling = Shape → Place → Computation (Unit {0})

abbrev pub fill_parts : ℕ → List Filling → Filling
fill_parts i [] shape place = pure tt
fill_parts i (f ∷ fs) shape place = f (part_in shape i) (deeper place i) >> fill_parts (suc i) fs shape place

abbrev pub init_fills : Scope → Env → Init-F Filling → Filling
init_fills scope env (init.One e) shape place = in_type shape (meaning_of scope env e) >>= λ v. stored place v
init_fills scope env (init.Many all) shape place = fill_parts 0 all shape place

unfoldable pub fills : Scope → Env → Init → Filling
fills scope env = fold-Init Filling (init_fills scope env)

abbrev pub filled : Scope → Env → Option Init → Filling
filled scope env None shape place = pure tt
filled scope env (Some i) shape place = fills scope env i shape place

-- ---- declarations

-- a local: a fresh object that is zero, then its name is known, then its initialiser
abbrev pub local_binding : Word → Shape → Place → Binding
local_binding name shape place = record { name = name; shape = shape; place = place; labels = []; root = open_to_all }

-- a fresh object that is zero; one of no type there is none
abbrev pub made_zero : ℕ → Shape → Computation Place
made_zero level nothing = halted meaningless
made_zero level shape = made level (zero_of shape)

abbrev pub declared : Scope → List Declarator → Env → Computation Ending
declared scope [] env = pure (goes_on env)
declared scope (d ∷ ds) env =
    let shape = shape_of scope.source.structs d.ctype in
    made_zero scope.here.level shape >>= λ place.
    filled scope (local_binding d.name shape place ∷ env) d.init shape place >>
    declared scope ds (local_binding d.name shape place ∷ env)

-- static locals: their names are known, at the function's own level; the objects are there from the start
abbrev pub binding_at : List Binding → ℕ → Option Binding
binding_at [] k = None
binding_at (b ∷ bs) zero = Some b
binding_at (b ∷ bs) (suc k) = binding_at bs k

abbrev pub with_static : ℕ → Option Binding → (Env → Computation Ending) → Env → Computation Ending
with_static level None next env = halted meaningless
with_static level (Some b) next env = if b.place.level == level then next (b ∷ env) else halted meaningless

abbrev pub with_statics : ℕ → List Binding → ℕ → List Declarator → Env → Computation Ending
with_statics level statics k [] env = pure (goes_on env)
with_statics level statics k (d ∷ ds) env =
    with_static level (binding_at statics k) (with_statics level statics (suc k) ds) env

abbrev pub declaration : Scope → Bool → List Declarator → ℕ → Env → Computation Ending
declaration scope true names k env = with_statics scope.here.level scope.here.statics k names env
declaration scope false names k env = declared scope names env

-- ---- output

-- bytes go out one by one
abbrev pub put_bytes : ℕ → ℕ → List Written → Computation Ending → Computation Ending
put_bytes level line [] next = next
put_bytes level line (w ∷ ws) next = within level line (put_byte w) >> put_bytes level line ws next

abbrev pub integers : List Meaning → Computation (List Labelled)
integers [] = pure []
integers (m ∷ ms) = integer_of m >>= λ x. integers ms >>= λ xs. pure (x ∷ xs)

abbrev pub low_byte : Labelled → Written
low_byte x = record { byte = residue U8 x.number; labels = x.labels }

-- the pieces of a format, which is a text
abbrev pub format_of : Node-F Node Expr → Option (List Piece)
format_of (node.Text bytes) = pieces_of bytes
format_of _ = None

-- the bytes of a format go out, where there is an argument for each conversion
abbrev pub put_format : ℕ → ℕ → Option (List Piece) → List Labelled → Computation Ending → Computation Ending
put_format level line None xs next = halted meaningless
put_format level line (Some pieces) xs next =
    if conversions pieces == length xs then put_bytes level line (printed pieces xs) next else halted meaningless

-- `printf` evaluates its arguments and then writes the bytes of its format
abbrev pub printing : Scope → Env → ℕ → List Expr → Computation Ending → Computation Ending
printing scope env line [] next = halted meaningless
printing scope env line (f ∷ es) next =
    integers (map (meaning_of scope env) es) >>= λ xs.
    put_format scope.here.level line (format_of (out-Node f.node)) xs next

-- `putchar` writes the low 8 bits of its argument
abbrev pub putting : Scope → Env → ℕ → List Expr → Computation Ending → Computation Ending
putting scope env line (e ∷ []) next =
    integer_of (meaning_of scope env e) >>= λ x. put_bytes scope.here.level line (low_byte x ∷ []) next
putting scope env line _ next = halted meaningless

-- a call as a statement; its result is dropped
abbrev pub call_done : Scope → Env → Expr → Node-F Node Expr → Computation Ending → Computation Ending
call_done scope env e (node.Call name es) next =
    if bytes_eq name (codes "printf") then printing scope env e.line es next
    else (if bytes_eq name (codes "putchar") then putting scope env e.line es next
    else (meaning_of scope env e).value >> next)
call_done scope env e _ next = (meaning_of scope env e).value >> next

-- ---- loops

abbrev pub tested : Scope → Env → Option Expr → Computation Bool
tested scope env None = pure true
tested scope env (Some e) = integer_of (meaning_of scope env e) >>= λ x. pure (is_true x)

-- an evaluation of a loop's test is a step
abbrev pub test_of : Scope → ℕ → Env → Option Expr → Computation Bool
test_of scope line env e = within scope.here.level line count_step >> tested scope env e

-- behind the body of a loop: another round, or its end
abbrev pub looped : Ending → Computation Ending → Ending → Computation Ending
looped end again (goes_on env) = again
looped end again continues = again
looped end again breaks = pure end
looped end again (returns v) = pure (returns v)

-- at most so many rounds; `next` is what a `for` does behind its body
abbrev pub rounds : ℕ → Ending → Computation Bool → Computation Ending → Computation Ending → Computation Ending
rounds zero end test body next = halted unbounded
rounds (suc n) end test body next =
    test >>= λ go. if go then (body >>= looped end (next >> rounds n end test body next)) else pure end

-- ---- statements

-- `return` of a value in a function with a result, and of none in a function without
abbrev pub returned_as : Scope → Env → Shape → Option Expr → Computation Ending
returned_as scope env nothing None = pure (returns no_value)
returned_as scope env nothing (Some e) = halted meaningless
returned_as scope env shape None = halted meaningless
returned_as scope env shape (Some e) = in_type shape (meaning_of scope env e) >>= λ v. pure (returns v)

abbrev pub returned : Scope → Env → Option Expr → Computation Ending
returned scope env e = returned_as scope env scope.here.result e

-- one level of a statement, over what its parts do; `k` is the number of its first static local
abbrev pub act_run : Scope → ℕ → Act-F (ℕ → ℕ → Doing) Doing → ℕ → ℕ → ℕ → Env → Computation Ending
act_run scope bound act.Empty line second k env = pure (goes_on env)
act_run scope bound (act.Block all) line second k env = scoped env (in_turn all k env)
act_run scope bound (act.Set op target e) line second k env =
    set_by scope.here op second (meaning_of scope env target) (meaning_of scope env e) (pure (goes_on env))
act_run scope bound (act.Bump up prefix target) line second k env =
    updated scope.here (if up then Add else Sub) second (meaning_of scope env target) one (pure (goes_on env))
act_run scope bound (act.Call e) line second k env = call_done scope env e (out-Node e.node) (pure (goes_on env))
act_run scope bound (act.If test a b) line second k env =
    integer_of (meaning_of scope env test) >>= λ x. if is_true x then a.run k env else if_there b (next_static k a) env
act_run scope bound (act.While test body) line second k env =
    rounds bound (goes_on env) (test_of scope line env (Some test)) (body.run k env) (pure (goes_on env))
act_run scope bound (act.DoWhile body test) line second k env =
    body.run k env >>= looped (goes_on env)
    (rounds bound (goes_on env) (test_of scope line env (Some test)) (body.run k env) (pure (goes_on env)))
act_run scope bound (act.For first test next body) line second k env =
    scoped env (if_there first k env >>= then_next (λ inner.
    rounds bound (goes_on inner) (test_of scope line inner test) (body.run k inner) (if_there next k inner)))
act_run scope bound (act.Return e) line second k env = returned scope env e
act_run scope bound act.Break line second k env = pure breaks
act_run scope bound act.Continue line second k env = pure continues
act_run scope bound (act.Declare d) line second k env = declaration scope d.is_static d.names k env
act_run scope bound (act.Cle p) line second k env = pure (goes_on env)

abbrev pub act_doing : Scope → ℕ → Act-F (ℕ → ℕ → Doing) Doing → ℕ → ℕ → Doing
act_doing scope bound a line second = record {
  statics = act_statics (map-Act (ℕ → ℕ → Doing) Doing (List Declarator) (List Declarator) (λ n. (n 0 0).statics) (λ s. s.statics) a);
  run = act_run scope bound a line second;
}

-- What a statement does in a function, where each loop makes at most so many rounds.
unfoldable pub doing_of : Scope → ℕ → Stmt → Doing
doing_of scope bound = fold-Stmt (ℕ → ℕ → Doing) Doing (act_doing scope bound) (λ s. s.node s.line s.second)
