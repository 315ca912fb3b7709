-- The code of statements. A local has cells of its own from its declaration on, which are zeroed each time that it is declared.
use Rattle.std.specs.Prelude.{ℕ, suc, ◌+◌, pos, Bool, true, false, List, [], ◌∷◌, ◌++◌, length, map, max, Option, Some, None, slice_get, if◌then◌else◌, bytes_eq, codes}
use Rattle.cl_tree.specs.declared.kinds.IntKind.{IntKind}
use Rattle.cl_tree.specs.declared.kinds.IntKind.TheVariants.{I32}
use Rattle.cl_tree.specs.declared.kinds.BinOp.{BinOp}
use Rattle.cl_tree.specs.declared.kinds.BinOp.TheVariants.{Add, Sub}
use Rattle.cl_tree.specs.declared.tree.Expr.{Expr}
use Rattle.cl_tree.specs.declared.tree.Node.{Node, Node-F, out-Node}
use Rattle.cl_tree.specs.declared.tree.Node.TheOpen as node
use Rattle.cl_tree.specs.declared.tree.Init.{Init, Init-F, fold-Init}
use Rattle.cl_tree.specs.declared.tree.Init.TheOpen as init
use Rattle.cl_tree.specs.declared.tree.Declarator.{Declarator}
use Rattle.cl_tree.specs.declared.tree.Stmt.{Stmt, fold-Stmt}
use Rattle.cl_tree.specs.declared.tree.Act.{Act-F}
use Rattle.cl_tree.specs.declared.tree.Act.TheOpen as act
use Rattle.cl_tree.specs.Words.{Word}
use Rattle.cl_mean.specs.Shape.{Shape, shape_of, count_of}
use Rattle.cl_mean.specs.Evaluation.{working_kind, right_kind, given_kind}
use Rattle.en_image.specs.declared.instr.Instr.{Instr}
use Rattle.en_image.specs.declared.instr.Instr.TheVariants as instr
use Rattle.code_forms.specs.declared.mark.Mark.{Mark}
use Rattle.code_forms.specs.declared.mark.Mark.TheVariants.{Set, Leave, Next}
use Rattle.code_forms.specs.declared.storage.Storage.TheVariants.{Local}
use Rattle.code_forms.specs.Layout.{numbered_in, Bound, bound, Facts}
use Rattle.code_forms.specs.Pieces.{Piece, no_code, single, then_do, then_piece, sets, Part, no_part, part_of, then_part, resolved}
use Rattle.code_forms.specs.Lowering.{Lowered, kind_of, place_of, computed, convert_code, operand, in_type, lowered}
use Rattle.code_forms.specs.Printing.{drop_code, printing_of, putting_of}

-- ---- stores

-- `=`: the place, the value in its type, the store
abbrev pub assigned : Lowered → Lowered → Piece
assigned target e = then_do (then_piece (place_of target) 1 (in_type target.shape e)) 0 (instr.Store (count_of target.shape) ∷ [])

-- the old value, behind the place
abbrev pub old_value : Lowered → IntKind → Piece
old_value target kind = then_do (place_of target) 2 (target.again ∷ instr.Fetch 1 ∷ convert_code (kind_of target) kind)

-- `op=`: the place once, the old value, the right side, the operator, the store
abbrev pub updated_by : BinOp → IntKind → IntKind → ℕ → Lowered → Lowered → Piece
updated_by op kind right line target e =
    then_do (then_piece (old_value target kind) 2 (operand right e))
    0 (instr.Two op kind line ∷ (convert_code (given_kind op kind) (kind_of target) ++ instr.Store 1 ∷ []))

abbrev pub updated : BinOp → ℕ → Lowered → Lowered → Piece
updated op line target e =
    updated_by op (working_kind op (kind_of target) (kind_of e)) (right_kind op (kind_of target) (kind_of e)) line target e

abbrev pub set_by : Option BinOp → ℕ → Lowered → Lowered → Piece
set_by None line target e = assigned target e
set_by (Some op) line target e = updated op line target e

-- `++` and `--` add and subtract the `int` 1
abbrev pub one : Lowered
one = computed I32 (single (instr.Push (pos 1)))

-- ---- calls as statements

-- the result of a call is dropped
abbrev pub call_dropped : Lowered → Piece
call_dropped e = then_do e.value 0 (drop_code (count_of e.shape))

abbrev pub call_named : Facts → List Bound → ℕ → Expr → Word → List Expr → Piece
call_named facts known line e name es =
    if bytes_eq name (codes "printf") then printing_of line es (map (lowered facts known) es)
    else (if bytes_eq name (codes "putchar") then putting_of line (map (lowered facts known) es)
    else call_dropped (lowered facts known e))

unfoldable pub call_done : Facts → List Bound → Expr → Node-F Node Expr → Piece
call_done facts known e (node.Call name es) = call_named facts known e.line e name es
call_done facts known e _ = call_dropped (lowered facts known e)

-- ---- initialisers

-- what an initialiser stores in an object of a type that begins at a cell of the frame: its expressions in order, each at its place
abbrev pub Filling : Type 0
Filling = Shape → ℕ → Piece

abbrev pub fill_parts : ℕ → List Filling → Filling
fill_parts i [] shape cell = no_code
fill_parts i (f ∷ fs) shape cell = then_piece (f (numbered_in shape i).shape (cell + (numbered_in shape i).offset)) 0 (fill_parts (suc i) fs shape cell)

abbrev pub fill_one : Lowered → Filling
fill_one e shape cell = then_do (then_piece (single (instr.Local cell)) 1 (in_type shape e)) 0 (instr.Store (count_of shape) ∷ [])

abbrev pub init_fills : Facts → List Bound → Init-F Filling → Filling
init_fills facts known (init.One e) = fill_one (lowered facts known e)
init_fills facts known (init.Many all) = fill_parts 0 all

unfoldable pub fills : Facts → List Bound → Init → Filling
fills facts known = fold-Init Filling (init_fills facts known)

abbrev pub filled : Facts → List Bound → Option Init → Filling
filled facts known None shape cell = no_code
filled facts known (Some i) shape cell = fills facts known i shape cell

-- ---- names

-- What the code of a function goes by: the level's facts, the cells of its parameters and locals, its result, its static locals.
pub record Routine : Type 0 where
  pub facts : Facts
  pub frame : ℕ
  pub result : Shape
  pub statics : List Bound

-- Where a walk over a function stands: the names that are known, the next free cell of the frame, the number of the next static local.
pub record Names : Type 0 where
  pub known : List Bound
  pub cells : ℕ
  pub statics : ℕ

-- the code of a statement, and the names behind it
abbrev pub Walk : Type 0
Walk = Names → Part × Names

abbrev pub in_turn : List Walk → Walk
in_turn [] ns = (no_part, ns)
in_turn (s ∷ ss) ns = (then_part (s ns).0 (in_turn ss (s ns).1).0, (in_turn ss (s ns).1).1)

abbrev pub if_there : Option Walk → Walk
if_there None ns = (no_part, ns)
if_there (Some s) ns = s ns

-- Behind a block the names of its outside are known again.
abbrev pub left_to : List Bound → Names → Names
left_to known ns = record { known = known; cells = ns.cells; statics = ns.statics }

abbrev pub scoped : Walk → Walk
scoped s ns = ((s ns).0, left_to ns.known (s ns).1)

-- a statement that declares nothing and has no others in it
abbrev pub plain : Routine → (List Bound → Piece) → Walk
plain r piece ns = (part_of r.frame (piece ns.known), ns)

-- ---- declarations

abbrev pub with_local : Word → Shape → Names → Names
with_local name shape ns = record { known = bound name shape (Local ns.cells) ∷ ns.known; cells = ns.cells + count_of shape; statics = ns.statics }

-- its cells are zeroed, and then its name is known, also in its own initialiser
abbrev pub local_code : Routine → Declarator → Shape → Names → Piece
local_code r d shape ns =
    then_piece (record { height = 0; code = λ at top. instr.Clear ns.cells (count_of shape) ∷ [] })
    0 (filled r.facts (with_local d.name shape ns).known d.init shape ns.cells)

abbrev pub local_walk : Routine → Declarator → Walk
local_walk r d ns =
    (part_of r.frame (local_code r d (shape_of r.facts.structs d.ctype) ns), with_local d.name (shape_of r.facts.structs d.ctype) ns)

-- static locals lie in static cells from the start
abbrev pub with_bound : Option Bound → Names → Names
with_bound None ns = ns
with_bound (Some b) ns = record { known = b ∷ ns.known; cells = ns.cells; statics = suc ns.statics }

abbrev pub static_walk : Routine → Declarator → Walk
static_walk r d ns = (no_part, with_bound (slice_get r.statics ns.statics) ns)

abbrev pub declare_walk : Routine → Bool → List Declarator → Walk
declare_walk r true ds = in_turn (map (static_walk r) ds)
declare_walk r false ds = in_turn (map (local_walk r) ds)

-- ---- conditions and loops

-- where the test is false, nothing more
abbrev pub if_part : ℕ → Piece → Part → Part
if_part frame test a = record {
  height = max test.height a.height;
  code = λ at.
      let first = test.code at frame in
      let here = at + length first + 1 in
      let second = a.code here in
      sets first ++ (Set (instr.Zero (here + length second)) ∷ second);
}

-- where the test is false, the second part
abbrev pub else_part : ℕ → Piece → Part → Part → Part
else_part frame test a b = record {
  height = max test.height (max a.height b.height);
  code = λ at.
      let first = test.code at frame in
      let here = at + length first + 1 in
      let second = a.code here in
      let other = here + length second + 1 in
      let third = b.code other in
      sets first ++ (Set (instr.Zero other) ∷ (second ++ (Set (instr.Jump (other + length third)) ∷ third)));
}

-- the test of a loop, and the branch to a place where it is false; without a test there is neither
abbrev pub test_height : Option Piece → ℕ
test_height None = 0
test_height (Some p) = p.height

abbrev pub test_code : ℕ → Option Piece → ℕ → List Instr
test_code frame None at = []
test_code frame (Some p) at = p.code at frame

abbrev pub branch_code : Option Piece → ℕ → List Instr
branch_code None leave = []
branch_code (Some p) leave = instr.Zero leave ∷ []

abbrev pub loop_code : ℕ → ℕ → List Instr → List Instr → List Mark → List Mark → List Mark
loop_code line at test branch body after =
    Set (instr.Step line) ∷ (sets test ++ (sets branch ++ (body ++ (after ++ Set (instr.Jump at) ∷ []))))

-- A loop: its step is counted and then its test is evaluated. Behind the body, where `continue` goes, stands what a `for` does then.
abbrev pub loop_part : ℕ → ℕ → Option Piece → Part → Part → Part
loop_part frame line test body after = record {
  height = max (test_height test) (max body.height after.height);
  code = λ at.
      let tested = test_code frame test (at + 1) in
      let first = at + 1 + length tested + length (branch_code test 0) in
      let round = body.code first in
      let last = first + length round in
      let more = after.code last in
      let end = last + length more + 1 in
      map (resolved end last) (loop_code line at tested (branch_code test end) round more);
}

abbrev pub do_code : ℕ → ℕ → ℕ → List Instr → ℕ → List Mark → List Mark
do_code line at first test end body =
    Set (instr.Jump first) ∷ Set (instr.Step line) ∷ (sets test ++ (Set (instr.Zero end) ∷ (body ++ Set (instr.Jump (at + 1)) ∷ [])))

-- a `do` comes to its test behind its body
abbrev pub do_part : ℕ → ℕ → Piece → Part → Part
do_part frame line test body = record {
  height = max test.height body.height;
  code = λ at.
      let tested = test.code (at + 2) frame in
      let first = at + length tested + 3 in
      let round = body.code first in
      let last = first + length round in
      map (resolved (last + 1) last) (do_code line at first tested (last + 1) round);
}

-- a statement with a test and a part in it
abbrev pub with_test : (Piece → Part → Part) → Routine → Expr → Walk → Walk
with_test form r test s ns = (form (lowered r.facts ns.known test).value (scoped s ns).0, (scoped s ns).1)

abbrev pub if_walk : Routine → Expr → Walk → Option Walk → Walk
if_walk r test a None ns = with_test (if_part r.frame) r test a ns
if_walk r test a (Some b) ns =
    (else_part r.frame (lowered r.facts ns.known test).value (scoped a ns).0 (scoped b (scoped a ns).1).0, (scoped b (scoped a ns).1).1)

abbrev pub while_walk : Routine → ℕ → Expr → Walk → Walk
while_walk r line test s = with_test (λ p body. loop_part r.frame line (Some p) body no_part) r test s

abbrev pub maybe_test : Facts → List Bound → Option Expr → Option Piece
maybe_test facts known None = None
maybe_test facts known (Some e) = Some (lowered facts known e).value

-- what follows the first part of a `for`, whose declaration is known there
abbrev pub round_walk : Routine → ℕ → Option Expr → Option Walk → Walk → Walk
round_walk r line test next s ns = (
  loop_part r.frame line (maybe_test r.facts ns.known test) (scoped s ns).0 (scoped (if_there next) (scoped s ns).1).0,
  (scoped (if_there next) (scoped s ns).1).1,
)

abbrev pub for_walk : Routine → ℕ → Option Walk → Option Expr → Option Walk → Walk → Walk
for_walk r line first test next s = scoped (in_turn (if_there first ∷ round_walk r line test next s ∷ []))

-- ---- statements

abbrev pub mark_part : Mark → Part
mark_part m = record { height = 0; code = λ at. m ∷ [] }

abbrev pub return_piece : Shape → Facts → Option Expr → List Bound → Piece
return_piece result facts None known = then_do no_code 0 (instr.Return 0 ∷ [])
return_piece result facts (Some e) known = then_do (in_type result (lowered facts known e)) 0 (instr.Return (count_of result) ∷ [])

abbrev pub act_walk : Routine → Act-F (ℕ → ℕ → Walk) Walk → ℕ → ℕ → Walk
act_walk r (act.Block ss) line second = scoped (in_turn ss)
act_walk r (act.Set op target e) line second = plain r (λ known. set_by op second (lowered r.facts known target) (lowered r.facts known e))
act_walk r (act.Bump up prefix target) line second = plain r (λ known. updated (if up then Add else Sub) second (lowered r.facts known target) one)
act_walk r (act.Call e) line second = plain r (λ known. call_done r.facts known e (out-Node e.node))
act_walk r (act.If test a b) line second = if_walk r test a b
act_walk r (act.While test s) line second = while_walk r line test s
act_walk r (act.DoWhile s test) line second = with_test (do_part r.frame line) r test s
act_walk r (act.For first test next s) line second = for_walk r line first test next s
act_walk r (act.Return e) line second = plain r (return_piece r.result r.facts e)
act_walk r act.Break line second = λ ns. (mark_part Leave, ns)
act_walk r act.Continue line second = λ ns. (mark_part Next, ns)
act_walk r (act.Declare d) line second = declare_walk r d.is_static d.names
act_walk r _ line second = λ ns. (no_part, ns)

-- the code of a statement of a function
unfoldable pub walk : Routine → Stmt → Walk
walk r = fold-Stmt (ℕ → ℕ → Walk) Walk (act_walk r) (λ s. s.node s.line s.second)
