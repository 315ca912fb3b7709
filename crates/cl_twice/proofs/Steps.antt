-- What is declared behind a declaration, in the innermost scope alone.
use Rattle.std.proofs.Common.{◌≡◌, ◌≤◌, ◌-◌, ◌+◌, ◌<◌, ◌++◌, ℕ, suc, List, [], ◌∷◌, length, drop, get_or, drop-cons, add-one, sym, ap, ◌∙◌, subst, arith}
use Rattle.std.proofs.lemmas.List.{drop-drop}
use Rattle.cl_tree.specs.declared.tree.Declarator.{Declarator}
use Rattle.cl_typing.specs.Rules.{Lines}
use Rattle.cl_typing.specs.Scope.{Env, bound, with_names}
use Rattle.cl_typing.specs.Twice.{name_twice, names_twice, field_twice, fields_twice}
use Rattle.cl_scope.specs.Table.{since}
use Rattle.cl_scope.specs.Behind.{Extends}
use Rattle.cl_scope.proofs.Searches.{begins_front, begins_behind, none_in_both, finds_behind}
use Rattle.cl_scope.proofs.Behind.{since_self, since_one, since_names, extends_self, extends_names}

pub ruleset steps = (begins_front, begins_behind, none_in_both, finds_behind, since_one)

-- the scope of a body behind its parameters
pub behind_params : (params : List Declarator) (env : Env)
    → since (length env) (with_names params env) ≡ with_names params []
behind_params params env =
    let e : length env ≤ length env = omega arith in since_names (length env) params env e
    ∙ ap (with_names params) (since_self env)

pub params_longer : (params : List Declarator) (env : Env) → length env ≤ length (with_names params env)
params_longer params env = (extends_names params env env (extends_self env)).longer

-- leaving the parameters and what a body declares
pub body_left : (params : List Declarator) (env new : Env) → Extends (with_names params env) new
    → drop (length new - length env) new ≡ env
body_left params env new h =
    let mid = with_names params env in
    let p : Extends env mid = extends_names params env env (extends_self env) in
    let a : length env ≤ length mid = p.longer in
    let b : length mid ≤ length new = h.longer in
    let e : length new - length env ≡ (length new - length mid) + (length mid - length env) = omega arith in
    rw e (sym (drop-drop (length mid - length env) (length new - length mid) new)
    ∙ ap (drop (length mid - length env)) h.left ∙ p.left)

-- one declarator further
head_of : (ds : List Declarator) (d : Declarator) (i : ℕ) → i < length ds → d ≡ get_or ds i d → drop i ds ≡ d
    ∷ drop (suc i) ds
head_of ds d i h is = drop-cons ds i d h ∙ ap (λ (x : Declarator). x ∷ drop (suc i) ds) (sym is)

pub known_step : (ds : List Declarator) (d : Declarator) (i : ℕ) (env new whole : Env) → i < length ds
    → d ≡ get_or ds i d → new ≡ bound d ∷ env
    → with_names (drop i ds) env ≡ whole → with_names (drop (i + 1) ds) new ≡ whole
unfolding with_names
known_step ds d i env new whole h is behind rest =
    rw (add-one, behind) (subst (λ (xs : List Declarator). with_names xs env ≡ whole) (head_of ds d i h is) rest)

pub names_step : (start : ℕ) (ds : List Declarator) (d : Declarator) (i : ℕ) (env new : Env) (whole : Lines)
    → i < length ds → d ≡ get_or ds i d → start ≤ length env
    → name_twice (since start env) d ≡ [] → new ≡ bound d ∷ env → names_twice (since start env) (drop i ds) ≡ whole
    → names_twice (since start new) (drop (i + 1) ds) ≡ whole
unfolding names_twice
names_step start ds d i env new whole h is entered none behind rest =
    let r : name_twice (since start env) d ++ names_twice (bound d ∷ since start env) (drop (suc i) ds) ≡ whole =
    subst (λ (xs : List Declarator). names_twice (since start env) xs ≡ whole) (head_of ds d i h is) rest in
    let k : names_twice (bound d ∷ since start env) (drop (suc i) ds) ≡ whole =
    subst (λ (ls : Lines). ls ++ names_twice (bound d ∷ since start env) (drop (suc i) ds) ≡ whole) none r in
    rw (add-one, behind, since_one start (bound d) env entered) k

pub fields_step : (start : ℕ) (ds : List Declarator) (d : Declarator) (i : ℕ) (env new : Env) (whole : Lines)
    → i < length ds → d ≡ get_or ds i d → start ≤ length env
    → field_twice (since start env) d ≡ [] → new ≡ bound d ∷ env → fields_twice (since start env) (drop i ds) ≡ whole
    → fields_twice (since start new) (drop (i + 1) ds) ≡ whole
unfolding fields_twice
fields_step start ds d i env new whole h is entered none behind rest =
    let r : field_twice (since start env) d ++ fields_twice (bound d ∷ since start env) (drop (suc i) ds) ≡ whole =
    subst (λ (xs : List Declarator). fields_twice (since start env) xs ≡ whole) (head_of ds d i h is) rest in
    let k : fields_twice (bound d ∷ since start env) (drop (suc i) ds) ≡ whole =
    subst (λ (ls : Lines). ls ++ fields_twice (bound d ∷ since start env) (drop (suc i) ds) ≡ whole) none r in
    rw (add-one, behind, since_one start (bound d) env entered) k

pub entered_step : (start : ℕ) (d : Declarator) (env new : Env) → start ≤ length env → new ≡ bound d ∷ env
    → start ≤ length new
entered_step start d env new h e = rw e (omega arith)
