-- What leaving a scope leaves.
use Rattle.std.proofs.Common.{◌≡◌, ◌-◌, ℕ, List, [], ◌∷◌, length, drop, map, sym, ap, ◌∙◌, subst, Bool, true, false, Option, Some, None, option_map}
use Rattle.cl_tree.specs.declared.tree.Declarator.{Declarator}
use Rattle.cl_tree.specs.declared.tree.Stmt.{Stmt, fold_out-Stmt}
use Rattle.cl_tree.specs.declared.tree.Act.{Act, Act-F, out-Act, map-Act, fold-Act, fold_out-Act}
use Rattle.cl_tree.specs.declared.tree.Act.TheOpen as act
use Rattle.cl_levels.specs.declared.uses.Variable.TheVariants.{Static, Local}
use Rattle.cl_levels.specs.Uses.{known, Names, with_local, with_static, with_params}
use Rattle.cl_levels.specs.Crossings.{Levelled}
use Rattle.cl_uses.specs.Spots.{in_function}
use Rattle.cl_uses.specs.Behind.{Extends}
use Rattle.cl_uses.proofs.Behind.{extends_self, extends_one, extends_more, extends_params}
use Rattle.cle_ways.specs.Ways.{Walk, locals_walk, statics_walk, declare_walk, act_walk, walk, in_turn, if_there}

extends_locals : (l : Levelled) (f : ℕ) (ds : List Declarator) (ns : Names) → Extends ns.known (locals_walk l f ds ns).1.known
extends_locals l f [] ns = extends_self ns.known
extends_locals l f (d ∷ ds) ns =
    extends_more ns.known (with_local d.name ns).known (locals_walk l f ds (with_local d.name ns)).1.known
    (extends_one ns.known ns.known (known d.name (Local ns.locals)) (extends_self ns.known)) (extends_locals l f ds (with_local d.name ns))

extends_statics : (ds : List Declarator) (ns : Names) → Extends ns.known (statics_walk ds ns).1.known
extends_statics [] ns = extends_self ns.known
extends_statics (d ∷ ds) ns =
    extends_more ns.known (with_static d.name ns).known (statics_walk ds (with_static d.name ns)).1.known
    (extends_one ns.known ns.known (known d.name (Static ns.statics)) (extends_self ns.known)) (extends_statics ds (with_static d.name ns))

extends_declared : (l : Levelled) (f : ℕ) (b : Bool) (ds : List Declarator) (ns : Names) → Extends ns.known (declare_walk l f b ds ns).1.known
extends_declared l f true ds ns = extends_statics ds ns
extends_declared l f false ds ns = extends_locals l f ds ns

extends_act : (l : Levelled) (f : ℕ) (y : Act-F (ℕ → Walk) Walk) (line : ℕ) (ns : Names) → Extends ns.known (act_walk l f y line ns).1.known
extends_act l f act.Empty line ns = extends_self ns.known
extends_act l f (act.Block ss) line ns = extends_self ns.known
extends_act l f (act.Set op place value) line ns = extends_self ns.known
extends_act l f (act.Bump up prefix place) line ns = extends_self ns.known
extends_act l f (act.Call e) line ns = extends_self ns.known
extends_act l f (act.If c s other) line ns = extends_self ns.known
extends_act l f (act.While c s) line ns = extends_self ns.known
extends_act l f (act.DoWhile s c) line ns = extends_self ns.known
extends_act l f (act.For first test next s) line ns = extends_self ns.known
extends_act l f (act.Return e) line ns = extends_self ns.known
extends_act l f act.Break line ns = extends_self ns.known
extends_act l f act.Continue line ns = extends_self ns.known
extends_act l f (act.Declare d) line ns = extends_declared l f d.is_static d.names ns
extends_act l f (act.Cle p) line ns = extends_self ns.known

abbrev pub walk_parts : Levelled → ℕ → Act-F Act Stmt → Act-F (ℕ → Walk) Walk
walk_parts l f = map-Act Act Stmt (ℕ → Walk) Walk (fold-Act (ℕ → Walk) Walk (act_walk l f) (λ s. s.node s.line)) (walk l f)

pub walk_is : (l : Levelled) (f : ℕ) (s : Stmt) → walk l f s ≡ act_walk l f (walk_parts l f (out-Act s.node)) s.line
unfolding walk
walk_is l f s =
    fold_out-Stmt (ℕ → Walk) Walk (act_walk l f) (λ x. x.node x.line) s
    ∙ ap (λ w. w s.line) (fold_out-Act (ℕ → Walk) Walk (act_walk l f) (λ x. x.node x.line) s.node)

pub extends_walk : (l : Levelled) (f : ℕ) (s : Stmt) (ns : Names) → Extends ns.known (walk l f s ns).1.known
extends_walk l f s ns =
    subst (λ (w : Walk). Extends ns.known (w ns).1.known) (sym (walk_is l f s)) (extends_act l f (walk_parts l f (out-Act s.node)) s.line ns)

extends_maybe : (l : Levelled) (f : ℕ) (s : Option Stmt) (ns : Names) → Extends ns.known (if_there (option_map (walk l f) s) ns).1.known
extends_maybe l f None ns = extends_self ns.known
extends_maybe l f (Some s) ns = extends_walk l f s ns

pub extends_turn : (l : Levelled) (f : ℕ) (ss : List Stmt) (ns : Names) → Extends ns.known (in_turn (map (walk l f) ss) ns).1.known
extends_turn l f [] ns = extends_self ns.known
extends_turn l f (s ∷ ss) ns =
    extends_more ns.known (walk l f s ns).1.known (in_turn (map (walk l f) ss) (walk l f s ns).1).1.known
    (extends_walk l f s ns) (extends_turn l f ss (walk l f s ns).1)

-- ---- what leaving leaves

pub left_walk : (l : Levelled) (f : ℕ) (s : Stmt) (ns : Names)
    → drop (length (walk l f s ns).1.known - length ns.known) (walk l f s ns).1.known ≡ ns.known
left_walk l f s ns = (extends_walk l f s ns).left

pub left_turn : (l : Levelled) (f : ℕ) (ss : List Stmt) (ns : Names)
    → drop (length (in_turn (map (walk l f) ss) ns).1.known - length ns.known) (in_turn (map (walk l f) ss) ns).1.known ≡ ns.known
left_turn l f ss ns = (extends_turn l f ss ns).left

abbrev pub behind_head : Levelled → ℕ → Option Stmt → Option Stmt → Names → Names
behind_head l f first next ns = (if_there (option_map (walk l f) next) (if_there (option_map (walk l f) first) ns).1).1

pub left_for : (l : Levelled) (f : ℕ) (first next : Option Stmt) (ns : Names)
    → drop (length (behind_head l f first next ns).known - length ns.known) (behind_head l f first next ns).known ≡ ns.known
left_for l f first next ns =
    (extends_more ns.known (if_there (option_map (walk l f) first) ns).1.known (behind_head l f first next ns).known
    (extends_maybe l f first ns) (extends_maybe l f next (if_there (option_map (walk l f) first) ns).1)).left

abbrev pub behind_body : Levelled → ℕ → List Declarator → List Stmt → Names → Names
behind_body l f params ss ns = (in_turn (map (walk l f) ss) (with_params params (in_function ns))).1

pub left_body : (l : Levelled) (f : ℕ) (params : List Declarator) (ss : List Stmt) (ns : Names)
    → drop (length (behind_body l f params ss ns).known - length ns.known) (behind_body l f params ss ns).known ≡ ns.known
left_body l f params ss ns =
    (extends_more ns.known (with_params params (in_function ns)).known (behind_body l f params ss ns).known
    (extends_params params (in_function ns)) (extends_turn l f ss (with_params params (in_function ns)))).left
