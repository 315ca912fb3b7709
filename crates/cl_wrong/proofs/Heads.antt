-- What leaving a `for` leaves, and one statement of a block further.
use Rattle.std.proofs.Common.{◌≡◌, ◌-◌, ◌+◌, ◌<◌, ◌++◌, ◌∷◌, [], ℕ, suc, List, map, get_or, length, drop, sym, ap, ◌∙◌, subst, add-one, drop-cons, Bool, Option, Some, None}
use Rattle.cl_tree.specs.declared.tree.Stmt.{Stmt}
use Rattle.cl_typing.specs.Rules.{Lines}
use Rattle.cl_typing.specs.Scope.{Env, with_names}
use Rattle.cl_typing.specs.Wrong.{Scoped, in_order, env_behind}
use Rattle.cl_scope.proofs.Behind.{extends_self, left}

pub left_head : (s : Option Scoped) (env : Env) → drop (length (env_behind s env) - length env) (env_behind s env) ≡ env
left_head None env = (extends_self env).left
left_head (Some s) env = left s.declares env

pub order_step : (f : Stmt → Scoped) (loops : Bool) (all : List Stmt) (s : Stmt) (i : ℕ) (env new : Env) (whole : Lines)
    → i < length all → s ≡ get_or all i s
    → (f s).places env loops ≡ [] → new ≡ with_names (f s).declares env
    → in_order (map f (drop i all)) env loops ≡ whole → in_order (map f (drop (i + 1) all)) new loops ≡ whole
unfolding in_order
order_step f loops all s i env new whole h is none behind rest =
    let e : drop i all ≡ s ∷ drop (suc i) all = drop-cons all i s h
    ∙ ap (λ (x : Stmt). x ∷ drop (suc i) all) (sym is) in
    let r : (f s).places env loops
    ++ in_order (map f (drop (suc i) all)) (with_names (f s).declares env) loops ≡ whole =
    subst (λ (xs : List Stmt). in_order (map f xs) env loops ≡ whole) e rest in
    let k : in_order (map f (drop (suc i) all)) (with_names (f s).declares env) loops ≡ whole =
    subst (λ (ls : Lines). ls ++ in_order (map f (drop (suc i) all)) (with_names (f s).declares env) loops ≡ whole)
    none r in
    rw (add-one, behind) k
