-- What the folds of the rules are at one level.
use Rattle.std.proofs.Common.{◌≡◌, ℕ, List, [], ◌∷◌, map, sym, ap, ◌∙◌, Bool, Option, Some, None, subst}
use Rattle.cl_tree.specs.declared.tree.CType.{CType, CType-F, out-CType, roll-CType, roll-out-CType}
use Rattle.cl_tree.specs.declared.tree.Expr.{Expr, fold_out-Expr}
use Rattle.cl_tree.specs.declared.tree.Node.{Node, Node-F, out-Node, map-Node, fold-Node, fold_out-Node}
use Rattle.cl_tree.specs.declared.tree.Init.{Init, Init-F, out-Init, roll-Init, ind-Init, out-roll-Init, map-Init, fold_out-Init}
use Rattle.cl_tree.specs.declared.tree.Init.TheOpen as init
use Rattle.cl_tree.specs.declared.tree.Stmt.{Stmt, Stmt-F, roll-Stmt, ind-Stmt, fold_out-Stmt}
use Rattle.cl_tree.specs.declared.tree.Act.{Act, Act-F, out-Act, out-roll-Act, map-Act, fold-Act, fold_out-Act}
use Rattle.cl_tree.specs.declared.tree.Act.TheOpen as act
use Rattle.cl_typing.specs.Rules.{Lines}
use Rattle.cl_typing.specs.Scope.{Env, Scoped}
use Rattle.cl_typing.specs.Unknown.{Known, node_unknown, expr_unknown, act_unknown, stmt_unknown}
use Rattle.cl_typing.specs.Unknown as unknown
use Rattle.cl_typing.specs.Types.{Judged, node_judged, judged}
use Rattle.cl_typing.specs.Twice.{act_twice, stmt_twice}
use Rattle.cl_typing.specs.Wrong as wrong

-- ---- expressions

abbrev pub Named : Type 0
Named = ℕ → Lines

abbrev pub names_of : Known → Env → Node-F Node Expr → Node-F Named Lines
names_of known env = map-Node Node Expr Named Lines (fold-Node Named Lines (node_unknown known env) (λ e. e.node e.line)) (expr_unknown known env)

pub unknown_is : (known : Known) (env : Env) (e : Expr) → expr_unknown known env e ≡ node_unknown known env (names_of known env (out-Node e.node)) e.line
unfolding expr_unknown
unknown_is known env e =
    fold_out-Expr Named Lines (node_unknown known env) (λ x. x.node x.line) e
    ∙ ap (λ (f : Named). f e.line) (fold_out-Node Named Lines (node_unknown known env) (λ x. x.node x.line) e.node)

abbrev pub judgements : Env → Env → Node-F Node Expr → Node-F Judged Judged
judgements tags env = map-Node Node Expr Judged Judged (fold-Node Judged Judged (node_judged tags env) (λ e. e.node)) (judged tags env)

pub judged_is : (tags env : Env) (e : Expr) → judged tags env e ≡ node_judged tags env (judgements tags env (out-Node e.node))
unfolding judged
judged_is tags env e =
    fold_out-Expr Judged Judged (node_judged tags env) (λ x. x.node) e
    ∙ fold_out-Node Judged Judged (node_judged tags env) (λ x. x.node) e.node

-- ---- initialisers

pub init_unknown_is : (known : Known) (env : Env) (i : Init) → unknown.init_unknown known env i ≡ unknown.init_step known env (map-Init Init Lines (unknown.init_unknown known env) (out-Init i))
unfolding unknown.init_unknown
init_unknown_is known env i = fold_out-Init Lines (unknown.init_step known env) i

abbrev pub Fitting : Type 0
Fitting = CType → Bool

pub init_fits_is : (tags env : Env) (is_static : Bool) (i : Init) → wrong.init_fits tags env is_static i ≡ wrong.init_step tags env is_static (map-Init Init Fitting (wrong.init_fits tags env is_static) (out-Init i))
unfolding wrong.init_fits
init_fits_is tags env is_static i = fold_out-Init Fitting (wrong.init_step tags env is_static) i

-- ---- statements

abbrev pub unknown_parts : Known → Act-F Act Stmt → Act-F Scoped Scoped
unknown_parts known = map-Act Act Stmt Scoped Scoped (fold-Act Scoped Scoped (act_unknown known) (λ s. s.node)) (stmt_unknown known)

pub stmt_unknown_is : (known : Known) (s : Stmt) → stmt_unknown known s ≡ act_unknown known (unknown_parts known (out-Act s.node))
unfolding stmt_unknown
stmt_unknown_is known s =
    fold_out-Stmt Scoped Scoped (act_unknown known) (λ x. x.node) s
    ∙ fold_out-Act Scoped Scoped (act_unknown known) (λ x. x.node) s.node

abbrev pub Wrongs : Type 0
Wrongs = ℕ → wrong.Scoped

abbrev pub wrong_parts : wrong.Inside → Act-F Act Stmt → Act-F Wrongs wrong.Scoped
wrong_parts inside = map-Act Act Stmt Wrongs wrong.Scoped (fold-Act Wrongs wrong.Scoped (wrong.act_wrong inside) (λ s. s.node s.line)) (wrong.stmt_wrong inside)

pub stmt_wrong_is : (inside : wrong.Inside) (s : Stmt) → wrong.stmt_wrong inside s ≡ wrong.act_wrong inside (wrong_parts inside (out-Act s.node)) s.line
unfolding wrong.stmt_wrong
stmt_wrong_is inside s =
    fold_out-Stmt Wrongs wrong.Scoped (wrong.act_wrong inside) (λ x. x.node x.line) s
    ∙ ap (λ (f : Wrongs). f s.line) (fold_out-Act Wrongs wrong.Scoped (wrong.act_wrong inside) (λ x. x.node x.line) s.node)

abbrev pub twice_parts : Act-F Act Stmt → Act-F Scoped Scoped
twice_parts = map-Act Act Stmt Scoped Scoped (fold-Act Scoped Scoped act_twice (λ s. s.node)) stmt_twice

pub stmt_twice_is : (s : Stmt) → stmt_twice s ≡ act_twice (twice_parts (out-Act s.node))
unfolding stmt_twice
stmt_twice_is s =
    fold_out-Stmt Scoped Scoped act_twice (λ x. x.node) s
    ∙ fold_out-Act Scoped Scoped act_twice (λ x. x.node) s.node

-- ---- induction over initialisers

abbrev pub Each : {T : Type 0} → (T → Type 0) → List T → Type 0
Each P [] = Unit {0}
Each P (e ∷ es) = P e × Each P es

each_of : {T : Type 0} (P : T → Type 0) (es : List ((e : T) × P e)) → Each P (map (λ e. e.0) es)
each_of P [] = tt
each_of P (e ∷ es) = (e.1, each_of P es)

abbrev pub InitParts : (Init → Type 0) → Init-F Init → Type 0
InitParts P (init.One e) = Unit {0}
InitParts P (init.Many all) = Each P all

init_parts_of : (P : Init → Type 0) (y : Init-F ((i : Init) × P i)) → InitParts P (map-Init ((i : Init) × P i) Init (λ i. i.0) y)
init_parts_of P (init.One e) = tt
init_parts_of P (init.Many all) = each_of P all

pub init_induction : (P : Init → Type 0) → ((i : Init) → InitParts P (out-Init i) → P i) → (i : Init) → P i
init_induction P step = ind-Init P (λ x y q. step (roll-Init x) (subst (InitParts P) (sym (out-roll-Init x)) (subst (InitParts P) q (init_parts_of P y))))

-- ---- types

pub is_made : (t : CType) (x : CType-F CType) → out-CType t ≡ x → t ≡ roll-CType x
is_made t x e = sym (roll-out-CType t) ∙ ap roll-CType e

-- ---- induction over statements

abbrev pub Maybe : (Stmt → Type 0) → Option Stmt → Type 0
Maybe P None = Unit {0}
Maybe P (Some s) = P s

abbrev pub StmtParts : (Stmt → Type 0) → Act-F Act Stmt → Type 0
StmtParts P (act.Block all) = Each P all
StmtParts P (act.If test a b) = P a × Maybe P b
StmtParts P (act.While test body) = P body
StmtParts P (act.DoWhile body test) = P body
StmtParts P (act.For first test next body) = Maybe P first × Maybe P next × P body
StmtParts P _ = Unit {0}

stmt_parts_of : (P : Stmt → Type 0) (Q : Act → Type 0) (y : Act-F ((a : Act) × Q a) ((s : Stmt) × P s)) → StmtParts P (map-Act _ _ Act Stmt (λ a. a.0) (λ s. s.0) y)
stmt_parts_of P Q (act.Block all) = each_of P all
stmt_parts_of P Q (act.If test a None) = (a.1, tt)
stmt_parts_of P Q (act.If test a (Some b)) = (a.1, b.1)
stmt_parts_of P Q (act.While test body) = body.1
stmt_parts_of P Q (act.DoWhile body test) = body.1
stmt_parts_of P Q (act.For None test None body) = (tt, tt, body.1)
stmt_parts_of P Q (act.For None test (Some n) body) = (tt, n.1, body.1)
stmt_parts_of P Q (act.For (Some f) test None body) = (f.1, tt, body.1)
stmt_parts_of P Q (act.For (Some f) test (Some n) body) = (f.1, n.1, body.1)
stmt_parts_of P Q _ = tt

pub stmt_induction : (P : Stmt → Type 0) → ((s : Stmt) → StmtParts P (out-Act s.node) → P s) → (s : Stmt) → P s
stmt_induction P step = ind-Stmt (λ a. StmtParts P (out-Act a)) P
    (λ x y q. subst (StmtParts P) (sym (out-roll-Act x)) (subst (StmtParts P) q (stmt_parts_of P _ y)))
    (λ x y q. step (roll-Stmt x) (subst (λ (a : Act). StmtParts P (out-Act a)) (ap (λ (r : Stmt-F Act Stmt). r.node) q) y.node.1))
