-- What leaving a scope leaves.
use Rattle.std.proofs.Common.{◌≡◌, ◌≤◌, ◌-◌, ℕ, suc, List, [], ◌∷◌, length, drop, refl, sym, ◌++◌, ◌+◌, ◌<◌, map, get_or, ap, ◌∙◌, subst, add-one, drop-cons, arith}
use Rattle.std.proofs.Math.Seq.{take-length}
use Rattle.cl_tree.specs.declared.tree.Declarator.{Declarator}
use Rattle.cl_tree.specs.declared.tree.Stmt.{Stmt}
use Rattle.cl_typing.specs.Rules.{Lines}
use Rattle.cl_typing.specs.Scope.{Env, Binding, bound, with_names, Scoped, in_order}
use Rattle.cl_scope.specs.Table.{since}
use Rattle.cl_scope.specs.Behind.{Extends}

pub extends_self : (env : Env) → Extends env env
extends_self env =
    let e : length env - length env ≡ 0 = omega arith in record { left = rw e refl; longer = omega arith }

pub extends_one : (base env : Env) (b : Binding) → Extends base env → Extends base (b ∷ env)
extends_one base env b h =
    let l : length base ≤ length env = h.longer in
    let e : suc (length env) - length base ≡ suc (length env - length base) = omega arith in
    record { left = rw e h.left; longer = omega arith }

pub extends_names : (ds : List Declarator) (base env : Env) → Extends base env → Extends base (with_names ds env)
unfolding with_names
extends_names [] base env h = h
extends_names (d ∷ ds) base env h = extends_names ds base (bound d ∷ env) (extends_one base env (bound d) h)

pub left : (ds : List Declarator) (env : Env) → drop (length (with_names ds env) - length env) (with_names ds env) ≡ env
left ds env = (extends_names ds env env (extends_self env)).left

-- One statement of a block further.
pub order_step : (f : Stmt → Scoped) (all : List Stmt) (s : Stmt) (i : ℕ) (env new : Env) (whole : Lines)
    → i < length all → s ≡ get_or all i s
    → (f s).places env ≡ [] → new ≡ with_names (f s).declares env → in_order (map f (drop i all)) env ≡ whole
    → in_order (map f (drop (i + 1) all)) new ≡ whole
unfolding in_order
order_step f all s i env new whole h is none behind rest =
    let e : drop i all ≡ s ∷ drop (suc i) all = drop-cons all i s h
    ∙ ap (λ (x : Stmt). x ∷ drop (suc i) all) (sym is) in
    let r : (f s).places env ++ in_order (map f (drop (suc i) all)) (with_names (f s).declares env) ≡ whole =
    subst (λ (xs : List Stmt). in_order (map f xs) env ≡ whole) e rest in
    let k : in_order (map f (drop (suc i) all)) (with_names (f s).declares env) ≡ whole =
    subst (λ (ls : Lines). ls ++ in_order (map f (drop (suc i) all)) (with_names (f s).declares env) ≡ whole) none r
    in
    rw (add-one, behind) k

-- ---- the innermost scope alone

-- nothing is bound in a scope that is just entered
pub since_self : (env : Env) → since (length env) env ≡ []
since_self env = let e : length env - length env ≡ 0 = omega arith in rw e refl

pub since_all : (env : Env) → since 0 env ≡ env
since_all env = let e : length env - 0 ≡ length env = omega arith in rw e (take-length env)

pub since_one : (start : ℕ) (b : Binding) (env : Env) → start ≤ length env → since start (b ∷ env) ≡ b ∷ since start env
since_one start b env h = let e : suc (length env) - start ≡ suc (length env - start) = omega arith in rw e refl

pub since_names : (start : ℕ) (ds : List Declarator) (env : Env) → start ≤ length env
    → since start (with_names ds env) ≡ with_names ds (since start env)
unfolding with_names
since_names start [] env h = refl
since_names start (d ∷ ds) env h =
    since_names start ds (bound d ∷ env) (omega arith) ∙ ap (with_names ds) (since_one start (bound d) env h)
