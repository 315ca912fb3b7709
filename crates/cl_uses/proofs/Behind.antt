-- What leaving a scope leaves.
use Rattle.std.proofs.Common.{◌≡◌, ◌≤◌, ◌-◌, ◌+◌, ℕ, zero, suc, List, [], ◌∷◌, length, drop, map, refl, sym, ap, ◌∙◌, subst, arith, Bool, true, false, Option, Some, None, option_map}
use Rattle.cl_tree.specs.declared.tree.Declarator.{Declarator}
use Rattle.cl_tree.specs.declared.tree.Stmt.{Stmt, fold_out-Stmt}
use Rattle.cl_tree.specs.declared.tree.Act.{Act, Act-F, out-Act, map-Act, fold-Act, fold_out-Act}
use Rattle.cl_tree.specs.declared.tree.Act.TheOpen as act
use Rattle.cl_mean.specs.declared.checked.FnFact.{FnFact}
use Rattle.cl_levels.specs.declared.uses.Variable.TheVariants.{Static, Local}
use Rattle.cl_levels.specs.Uses.{Known, known, Names, Walk, with_local, with_static, locals_walk, statics_walk, declare_walk, act_walk, walk, in_turn, if_there, with_params}
use Rattle.cl_uses.specs.Spots.{in_function}
use Rattle.cl_uses.specs.Behind.{Extends}

pub extends_self : (ks : List Known) → Extends ks ks
extends_self ks =
    let e : length ks - length ks ≡ 0 = omega arith in record { left = rw e refl; longer = omega arith }

pub extends_one : (base ks : List Known) (k : Known) → Extends base ks → Extends base (k ∷ ks)
extends_one base ks k h =
    let l : length base ≤ length ks = h.longer in
    let e : suc (length ks) - length base ≡ suc (length ks - length base) = omega arith in
    record { left = rw e h.left; longer = omega arith }

drop_none : (n : ℕ) → ◌≡◌ {A = List Known} (drop n []) []
drop_none zero = refl
drop_none (suc n) = refl

drop_more : (n m : ℕ) (ks : List Known) → drop m (drop n ks) ≡ drop (n + m) ks
drop_more zero m ks = let e : m ≡ 0 + m = omega arith in ap (λ (j : ℕ). drop j ks) e
drop_more (suc n) m [] = drop_none m ∙ sym (drop_none (suc n + m))
drop_more (suc n) m (k ∷ ks) =
    let e : suc (n + m) ≡ suc n + m = omega arith in drop_more n m ks ∙ ap (λ (j : ℕ). drop j (k ∷ ks)) e

pub extends_more : (base ks more : List Known) → Extends base ks → Extends ks more → Extends base more
extends_more base ks more h g =
    let l : length base ≤ length ks = h.longer in
    let m : length ks ≤ length more = g.longer in
    let n : (length more - length ks) + (length ks - length base) ≡ length more - length base = omega arith in
    record {
      left = ap (λ (n : ℕ). drop n more) (sym n) ∙ sym (drop_more (length more - length ks) (length ks - length base) more)
          ∙ ap (drop (length ks - length base)) g.left ∙ h.left;
      longer = omega arith;
    }

-- ---- walks

pub extends_locals : (fs : List FnFact) (ds : List Declarator) (ns : Names) → Extends ns.known (locals_walk fs ds ns).1.known
extends_locals fs [] ns = extends_self ns.known
extends_locals fs (d ∷ ds) ns =
    extends_more ns.known (with_local d.name ns).known (locals_walk fs ds (with_local d.name ns)).1.known
    (extends_one ns.known ns.known (known d.name (Local ns.locals)) (extends_self ns.known)) (extends_locals fs ds (with_local d.name ns))

pub extends_statics : (ds : List Declarator) (ns : Names) → Extends ns.known (statics_walk ds ns).1.known
extends_statics [] ns = extends_self ns.known
extends_statics (d ∷ ds) ns =
    extends_more ns.known (with_static d.name ns).known (statics_walk ds (with_static d.name ns)).1.known
    (extends_one ns.known ns.known (known d.name (Static ns.statics)) (extends_self ns.known)) (extends_statics ds (with_static d.name ns))

pub extends_params : (ds : List Declarator) (ns : Names) → Extends ns.known (with_params ds ns).known
unfolding with_params
extends_params [] ns = extends_self ns.known
extends_params (d ∷ ds) ns =
    extends_more ns.known (with_local d.name ns).known (with_params ds (with_local d.name ns)).known
    (extends_one ns.known ns.known (known d.name (Local ns.locals)) (extends_self ns.known)) (extends_params ds (with_local d.name ns))

extends_declared : (fs : List FnFact) (b : Bool) (ds : List Declarator) (ns : Names) → Extends ns.known (declare_walk fs b ds ns).1.known
extends_declared fs true ds ns = extends_statics ds ns
extends_declared fs false ds ns = extends_locals fs ds ns

extends_act : (fs : List FnFact) (y : Act-F Walk Walk) (ns : Names) → Extends ns.known (act_walk fs y ns).1.known
extends_act fs act.Empty ns = extends_self ns.known
extends_act fs (act.Block ss) ns = extends_self ns.known
extends_act fs (act.Set op place value) ns = extends_self ns.known
extends_act fs (act.Bump up prefix place) ns = extends_self ns.known
extends_act fs (act.Call e) ns = extends_self ns.known
extends_act fs (act.If c s other) ns = extends_self ns.known
extends_act fs (act.While c s) ns = extends_self ns.known
extends_act fs (act.DoWhile s c) ns = extends_self ns.known
extends_act fs (act.For first test next s) ns = extends_self ns.known
extends_act fs (act.Return e) ns = extends_self ns.known
extends_act fs act.Break ns = extends_self ns.known
extends_act fs act.Continue ns = extends_self ns.known
extends_act fs (act.Declare d) ns = extends_declared fs d.is_static d.names ns
extends_act fs (act.Cle p) ns = extends_self ns.known

abbrev pub walk_parts : List FnFact → Act-F Act Stmt → Act-F Walk Walk
walk_parts fs = map-Act Act Stmt Walk Walk (fold-Act Walk Walk (act_walk fs) (λ s. s.node)) (walk fs)

pub walk_is : (fs : List FnFact) (s : Stmt) → walk fs s ≡ act_walk fs (walk_parts fs (out-Act s.node))
unfolding walk
walk_is fs s =
    fold_out-Stmt Walk Walk (act_walk fs) (λ x. x.node) s
    ∙ fold_out-Act Walk Walk (act_walk fs) (λ x. x.node) s.node

pub extends_walk : (fs : List FnFact) (s : Stmt) (ns : Names) → Extends ns.known (walk fs s ns).1.known
extends_walk fs s ns =
    subst (λ (w : Walk). Extends ns.known (w ns).1.known) (sym (walk_is fs s)) (extends_act fs (walk_parts fs (out-Act s.node)) ns)

extends_maybe : (fs : List FnFact) (s : Option Stmt) (ns : Names) → Extends ns.known (if_there (option_map (walk fs) s) ns).1.known
extends_maybe fs None ns = extends_self ns.known
extends_maybe fs (Some s) ns = extends_walk fs s ns

pub extends_turn : (fs : List FnFact) (ss : List Stmt) (ns : Names) → Extends ns.known (in_turn (map (walk fs) ss) ns).1.known
extends_turn fs [] ns = extends_self ns.known
extends_turn fs (s ∷ ss) ns =
    extends_more ns.known (walk fs s ns).1.known (in_turn (map (walk fs) ss) (walk fs s ns).1).1.known
    (extends_walk fs s ns) (extends_turn fs ss (walk fs s ns).1)

-- ---- what leaving leaves

pub left_walk : (fs : List FnFact) (s : Stmt) (ns : Names)
    → drop (length (walk fs s ns).1.known - length ns.known) (walk fs s ns).1.known ≡ ns.known
left_walk fs s ns = (extends_walk fs s ns).left

pub left_turn : (fs : List FnFact) (ss : List Stmt) (ns : Names)
    → drop (length (in_turn (map (walk fs) ss) ns).1.known - length ns.known) (in_turn (map (walk fs) ss) ns).1.known ≡ ns.known
left_turn fs ss ns = (extends_turn fs ss ns).left

abbrev pub behind_head : List FnFact → Option Stmt → Option Stmt → Names → Names
behind_head fs first next ns = (if_there (option_map (walk fs) next) (if_there (option_map (walk fs) first) ns).1).1

pub left_for : (fs : List FnFact) (first next : Option Stmt) (ns : Names)
    → drop (length (behind_head fs first next ns).known - length ns.known) (behind_head fs first next ns).known ≡ ns.known
left_for fs first next ns =
    (extends_more ns.known (if_there (option_map (walk fs) first) ns).1.known (behind_head fs first next ns).known
    (extends_maybe fs first ns) (extends_maybe fs next (if_there (option_map (walk fs) first) ns).1)).left

abbrev pub behind_body : List FnFact → List Declarator → List Stmt → Names → Names
behind_body fs params ss ns = (in_turn (map (walk fs) ss) (with_params params (in_function ns))).1

pub left_body : (fs : List FnFact) (params : List Declarator) (ss : List Stmt) (ns : Names)
    → drop (length (behind_body fs params ss ns).known - length ns.known) (behind_body fs params ss ns).known ≡ ns.known
left_body fs params ss ns =
    (extends_more ns.known (with_params params (in_function ns)).known (behind_body fs params ss ns).known
    (extends_params params (in_function ns)) (extends_turn fs ss (with_params params (in_function ns)))).left
