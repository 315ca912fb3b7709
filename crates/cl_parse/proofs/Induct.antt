-- Induction over initialisers and statements.
use Rattle.std.proofs.Common.{◌≡◌, List, [], ◌∷◌, map, subst, sym, ap, Option, Some, None}
use Rattle.cl_tree.specs.declared.tree.Init.{Init, Init-F, out-Init, roll-Init, ind-Init, out-roll-Init, map-Init}
use Rattle.cl_tree.specs.declared.tree.Init.TheOpen as init
use Rattle.cl_tree.specs.declared.tree.Stmt.{Stmt, Stmt-F, roll-Stmt, ind-Stmt}
use Rattle.cl_tree.specs.declared.tree.Act.{Act, Act-F, out-Act, out-roll-Act, map-Act}
use Rattle.cl_tree.specs.declared.tree.Act.TheOpen as act

abbrev pub Each : {T : Type 0} → (T → Type 0) → List T → Type 0
Each P [] = Unit {0}
Each P (e ∷ es) = P e × Each P es

each_of : {T : Type 0} (P : T → Type 0) (es : List ((e : T) × P e)) → Each P (map (λ e. e.0) es)
each_of P [] = tt
each_of P (e ∷ es) = (e.1, each_of P es)

-- ---- initialisers

abbrev pub InitParts : (Init → Type 0) → Init-F Init → Type 0
InitParts P (init.One e) = Unit {0}
InitParts P (init.Many all) = Each P all

init_parts_of : (P : Init → Type 0) (y : Init-F ((i : Init) × P i)) → InitParts P (map-Init ((i : Init) × P i) Init (λ i. i.0) y)
init_parts_of P (init.One e) = tt
init_parts_of P (init.Many all) = each_of P all

pub init_induction : (P : Init → Type 0) → ((i : Init) → InitParts P (out-Init i) → P i) → (i : Init) → P i
init_induction P step = ind-Init P (λ x y q. step (roll-Init x) (subst (InitParts P) (sym (out-roll-Init x)) (subst (InitParts P) q (init_parts_of P y))))

-- ---- statements

abbrev pub Maybe : (Stmt → Type 0) → Option Stmt → Type 0
Maybe P None = Unit {0}
Maybe P (Some s) = P s

abbrev pub StmtParts : (Stmt → Type 0) → Act-F Act Stmt → Type 0
StmtParts P (act.Block all) = Each P all
StmtParts P (act.If test a b) = P a × Maybe P b
StmtParts P (act.While test body) = P body
StmtParts P (act.DoWhile body test) = P body
StmtParts P (act.For first test next body) = Maybe P first × Maybe P next × P body
StmtParts P _ = Unit {0}

stmt_parts_of : (P : Stmt → Type 0) (Q : Act → Type 0) (y : Act-F ((a : Act) × Q a) ((s : Stmt) × P s)) → StmtParts P (map-Act _ _ Act Stmt (λ a. a.0) (λ s. s.0) y)
stmt_parts_of P Q act.Empty = tt
stmt_parts_of P Q (act.Block all) = each_of P all
stmt_parts_of P Q (act.Set op place value) = tt
stmt_parts_of P Q (act.Bump up prefix place) = tt
stmt_parts_of P Q (act.Call e) = tt
stmt_parts_of P Q (act.If test a None) = (a.1, tt)
stmt_parts_of P Q (act.If test a (Some b)) = (a.1, b.1)
stmt_parts_of P Q (act.While test body) = body.1
stmt_parts_of P Q (act.DoWhile body test) = body.1
stmt_parts_of P Q (act.For None test None body) = (tt, tt, body.1)
stmt_parts_of P Q (act.For None test (Some n) body) = (tt, n.1, body.1)
stmt_parts_of P Q (act.For (Some f) test None body) = (f.1, tt, body.1)
stmt_parts_of P Q (act.For (Some f) test (Some n) body) = (f.1, n.1, body.1)
stmt_parts_of P Q (act.Return e) = tt
stmt_parts_of P Q act.Break = tt
stmt_parts_of P Q act.Continue = tt
stmt_parts_of P Q (act.Declare d) = tt
stmt_parts_of P Q (act.Cle p) = tt

pub stmt_induction : (P : Stmt → Type 0) → ((s : Stmt) → StmtParts P (out-Act s.node) → P s) → (s : Stmt) → P s
stmt_induction P step = ind-Stmt (λ a. StmtParts P (out-Act a)) P
    (λ x y q. subst (StmtParts P) (sym (out-roll-Act x)) (subst (StmtParts P) q (stmt_parts_of P _ y)))
    (λ x y q. step (roll-Stmt x) (subst (λ (a : Act). StmtParts P (out-Act a)) (ap (λ (r : Stmt-F Act Stmt). r.node) q) y.node.1))
