-- Declarations: where no name is declared twice, the names of the library are bound nowhere, and a name of the file keeps its meaning.
use Rattle.std.proofs.Common.{◌≡◌, ℕ, List, [], ◌∷◌, map, refl, sym, ap, ◌∙◌, Bool, true, false, not, ◌||◌, Option, Some, None, subst, bytes_eq, if◌then◌else◌, inl, inr}
use Rattle.cl_tree.specs.declared.tree.Expr.{Expr}
use Rattle.cl_tree.specs.declared.tree.Declarator.{Declarator}
use Rattle.cl_tree.specs.declared.tree.Stmt.{Stmt}
use Rattle.cl_tree.specs.declared.tree.Act.{Act, Act-F, out-Act}
use Rattle.cl_tree.specs.declared.tree.Act.TheOpen as act
use Rattle.cl_tree.specs.declared.tree.Item.{Item}
use Rattle.cl_tree.specs.declared.tree.Item.TheVariants as item
use Rattle.cl_tree.specs.declared.tree.Program.{Program}
use Rattle.cl_tree.specs.Words.{Word}
use Rattle.cl_typing.specs.Rules.{unless}
use Rattle.cl_typing.specs.Scope.{Entry, function, Binding, binding, Env, Scoped, in_order, meaning, is_bound, is_library, bound, with_names, types_of, env_after, defined_after}
use Rattle.cl_typing.specs.Twice.{name_twice, names_twice, act_twice, stmt_twice, body_twice, Declared, function_fits, item_twice, items_twice, twice}
use Rattle.typing_laws.specs.Standing.{OneOf, Level, outermost, level_after, AmongItems, ItemStands, Spot, body_spot, declares, act_declares, spot_after, AmongStmts, PartOf, Initialises, Evaluates, BodyHas, InBody, ItemEvaluates, Stands}
use Rattle.typing_laws.specs.Named.{NoLibrary}
use Rattle.typing_laws.proofs.Lists.{none_of, holds, both, not_false, same_word}
use Rattle.typing_laws.proofs.Levels.{twice_parts, stmt_twice_is}
use Rattle.typing_laws.proofs.Kept.{AllKeep, names_keep, initialises_keep, among_keeps, stands_all, stands_keeps, evaluates_keeps}

-- ---- declarators

fresh_name : (l b : Bool) (line : ℕ) → unless (not (l || b)) line ≡ [] → (l ≡ false) × (b ≡ false)
fresh_name true b line e = absurd cc
fresh_name false true line e = absurd cc
fresh_name false false line e = (refl, refl)

pub names_fresh : (scope : Env) (ds : List Declarator) → names_twice scope ds ≡ [] → (d : Declarator) → OneOf ds d → is_library d.name ≡ false
unfolding names_twice
names_fresh scope [] e d o = absurd o
names_fresh scope (c ∷ ds) e d (inl o) = ap (λ (w : Declarator). is_library w.name) o ∙ (fresh_name (is_library c.name) (is_bound scope c.name) c.line (none_of _ _ e).0).0
names_fresh scope (c ∷ ds) e d (inr o) = names_fresh (bound c ∷ scope) ds (none_of (name_twice scope c) _ e).1 d o

-- ---- names of the library

other_name : (b : Bool) (x : Entry) (o : Option Entry) → b ≡ false → o ≡ None → (if b then Some x else o) ≡ None
other_name true x o e h = absurd cc
other_name false x o e h = h

differs : (a b : Word) (t : Bool) → (a ≡ b → ⊥) → bytes_eq a b ≡ t → bytes_eq a b ≡ false
differs a b true h e = absurd (h (same_word a b e))
differs a b false h e = e

library_kept : (b : Binding) (names : Env) → is_library b.name ≡ false → NoLibrary names → NoLibrary (b ∷ names)
unfolding meaning
library_kept b names l h name e =
    let d : b.name ≡ name → ⊥ = λ p. not_both (is_library name) (sym (ap is_library p) ∙ l) e in
    other_name (bytes_eq b.name name) b.entry (meaning names name) (differs b.name name (bytes_eq b.name name) d refl) (h name e)
  where
    not_both : (x : Bool) → x ≡ false → x ≡ true → ⊥
    not_both x p q = cc

pub fresh_keep : (scope : Env) (ds : List Declarator) → names_twice scope ds ≡ [] → AllKeep NoLibrary ds
fresh_keep scope ds e d o names h = library_kept (bound d) names (names_fresh scope ds e d o) h

-- ---- statements

-- no name is declared a second time in the statement, in some scope
abbrev pub OnceIn : Stmt → Type 0
OnceIn s = (scope : Env) × ((stmt_twice s).places scope ≡ [])

abbrev pub Once : Stmt → Spot → Type 0
Once s spot = OnceIn s

pub among_once : (ss : List Stmt) (scope : Env) → in_order (map stmt_twice ss) scope ≡ [] → (spot : Spot) (s : Stmt) (there : Spot) → AmongStmts ss spot s there → OnceIn s
unfolding in_order
among_once [] scope e spot s there h = absurd h
among_once (c ∷ ss) scope e spot s there (inl h) = (scope, ap (λ (w : Stmt). (stmt_twice w).places scope) h.0 ∙ (none_of _ _ e).0)
among_once (c ∷ ss) scope e spot s there (inr h) = among_once ss (with_names (stmt_twice c).declares scope) (none_of ((stmt_twice c).places scope) _ e).1 (spot_after c spot) s there h

its : (a s : Stmt) → s ≡ a → (stmt_twice a).places [] ≡ [] → OnceIn s
its a s p e = ([], ap (λ (w : Stmt). (stmt_twice w).places []) p ∙ e)

some_same : (a b : Stmt) → ◌≡◌ {A = Option Stmt} (Some a) (Some b) → b ≡ a
some_same a b e = cc

part_step : (y : Act-F Act Stmt) (scope : Env) → (act_twice (twice_parts y)).places scope ≡ [] → (spot : Spot) (s : Stmt) (there : Spot) → PartOf y spot s there → OnceIn s
part_step act.Empty scope e spot s there h = absurd h
part_step (act.Block ss) scope e spot s there h = among_once ss [] e spot s there h
part_step (act.Set op place value) scope e spot s there h = absurd h
part_step (act.Bump up prefix place) scope e spot s there h = absurd h
part_step (act.Call x) scope e spot s there h = absurd h
part_step (act.If c a None) scope e spot s there (inl p, q) = its a s p (none_of _ _ e).0
part_step (act.If c a None) scope e spot s there (inr p, q) = absurd cc
part_step (act.If c a (Some b)) scope e spot s there (inl p, q) = its a s p (none_of _ _ e).0
part_step (act.If c a (Some b)) scope e spot s there (inr p, q) = its b s (some_same b s p) (none_of ((stmt_twice a).places []) _ e).1
part_step (act.While c body) scope e spot s there h = its body s h.0 e
part_step (act.DoWhile body c) scope e spot s there h = its body s h.0 e
part_step (act.For None test None body) scope e spot s there (inl h) = absurd cc
part_step (act.For None test None body) scope e spot s there (inr (inl h)) = absurd cc
part_step (act.For None test None body) scope e spot s there (inr (inr h)) = its body s h.0 e
part_step (act.For None test (Some n) body) scope e spot s there (inl h) = absurd cc
part_step (act.For None test (Some n) body) scope e spot s there (inr (inl h)) = its n s (some_same n s h.0) (none_of _ _ e).0
part_step (act.For None test (Some n) body) scope e spot s there (inr (inr h)) = its body s h.0 (none_of ((stmt_twice n).places []) _ e).1
part_step (act.For (Some f) test None body) scope e spot s there (inl h) = its f s (some_same f s h.0) (none_of _ _ e).0
part_step (act.For (Some f) test None body) scope e spot s there (inr (inl h)) = absurd cc
part_step (act.For (Some f) test None body) scope e spot s there (inr (inr h)) = its body s h.0 (none_of ((stmt_twice f).places []) _ e).1
part_step (act.For (Some f) test (Some n) body) scope e spot s there (inl h) = its f s (some_same f s h.0) (none_of _ _ e).0
part_step (act.For (Some f) test (Some n) body) scope e spot s there (inr (inl h)) = its n s (some_same n s h.0) (none_of _ _ (none_of ((stmt_twice f).places []) _ e).1).0
part_step (act.For (Some f) test (Some n) body) scope e spot s there (inr (inr h)) = its body s h.0 (none_of ((stmt_twice n).places []) _ (none_of ((stmt_twice f).places []) _ e).1).1
part_step (act.Return x) scope e spot s there h = absurd h
part_step act.Break scope e spot s there h = absurd h
part_step act.Continue scope e spot s there h = absurd h
part_step (act.Declare d) scope e spot s there h = absurd h
part_step (act.Cle p) scope e spot s there h = absurd h

level : (s : Stmt) (scope : Env) → (stmt_twice s).places scope ≡ [] → (act_twice (twice_parts (out-Act s.node))).places scope ≡ []
level s scope h = ap (λ (w : Scoped). w.places scope) (sym (stmt_twice_is s)) ∙ h

pub part_once : (t : Stmt) (spot : Spot) → Once t spot → (s : Stmt) (there : Spot) → PartOf (out-Act t.node) spot s there → Once s there
part_once t spot k s there p = part_step (out-Act t.node) k.0 (level t k.0 k.1) spot s there p

declares_step : (y : Act-F Act Stmt) (scope : Env) → (act_twice (twice_parts y)).places scope ≡ [] → names_twice scope (act_declares y) ≡ []
unfolding names_twice
declares_step (act.Declare d) scope e = e
declares_step _ scope e = refl

pub declares_keep : (s : Stmt) (spot : Spot) → Once s spot → AllKeep NoLibrary (declares s)
declares_keep s spot k = fresh_keep k.0 (declares s) (declares_step (out-Act s.node) k.0 (level s k.0 k.1))

-- ---- items

abbrev pub so_far : Level → Env → Declared
so_far level defined = record { names = level.names; tags = level.tags; defined = defined }

-- nothing that an item declares is declared before it, where some functions are defined
abbrev pub ItemOnce : Item → Level → Type 0
ItemOnce i level = (defined : Env) × (item_twice (so_far level defined) i ≡ [])

pub items_once : (is : List Item) (level : Level) (defined : Env) → items_twice (so_far level defined) is ≡ [] → (i : Item) (there : Level) → AmongItems is level i there → ItemOnce i there
unfolding items_twice
items_once [] level defined e i there h = absurd h
items_once (j ∷ is) level defined e i there (inl h) =
    (defined, ap (λ (w : Item). item_twice (so_far there defined) w) h.0 ∙ ap (λ (w : Level). item_twice (so_far w defined) j) h.1 ∙ (none_of _ _ e).0)
items_once (j ∷ is) level defined e i there (inr h) =
    items_once is (level_after j level) (defined_after j defined) (none_of (item_twice (so_far level defined) j) _ e).1 i there h

pub program_once : (program : Program) → twice program ≡ [] → (i : Item) (level : Level) → ItemStands program i level → ItemOnce i level
unfolding twice
program_once program e i level h = items_once program.items outermost [] e i level h

-- ---- names of the library at each place

function_fresh : (so : Declared) (name : Word) (body : Option (List Stmt)) → function_fits so name body ≡ true → is_library name ≡ false
function_fresh so name body h = not_false (is_library name) (both (not (is_library name)) _ h).0

pub level_fresh : (i : Item) (level : Level) → ItemOnce i level → NoLibrary level.names → NoLibrary (env_after i level.names)
unfolding item_twice env_after
level_fresh (item.Struct name members line) level k h = h
level_fresh (item.Variables d) level k h = names_keep NoLibrary d.names (fresh_keep level.names d.names k.1) level.names h
level_fresh (item.Function is_static result name void_word params body line second) level k h =
    library_kept (binding name (function result (types_of params))) level.names
    (function_fresh (so_far level k.0) name body (holds _ second (none_of _ _ k.1).0)) h
level_fresh (item.Cle p line) level k h = h

pub levels_fresh : (is : List Item) (level : Level) → ((i : Item) (there : Level) → AmongItems is level i there → ItemOnce i there) → NoLibrary level.names
    → (i : Item) (there : Level) → AmongItems is level i there → NoLibrary there.names
levels_fresh [] level k h i there a = absurd a
levels_fresh (j ∷ is) level k h i there (inl a) = subst (λ (w : Level). NoLibrary w.names) (sym a.1) h
levels_fresh (j ∷ is) level k h i there (inr a) =
    levels_fresh is (level_after j level) (λ u w m. k u w (inr m)) (level_fresh j level (k j level (inl (refl, refl))) h) i there a

body_once : (i : Item) (level : Level) → ItemOnce i level → NoLibrary level.names → (s : Stmt) (spot : Spot) → BodyHas i level.names s spot → OnceIn s × NoLibrary spot.names
unfolding item_twice body_twice
body_once (item.Struct name members line) level k h s spot b = absurd b
body_once (item.Variables d) level k h s spot b = absurd b
body_once (item.Function is_static result name void_word params None line second) level k h s spot b = absurd b
body_once (item.Function is_static result name void_word params (Some body) line second) level k h s spot b =
    let f = item.Function is_static result name void_word params (Some body) line second in
    let inner = body_spot params (env_after f level.names) in
    let p = none_of (names_twice [] params) _ (none_of (unless (function_fits (so_far level k.0) name (Some body)) second) _ k.1).1 in (
      among_once body (with_names params []) p.1 inner s spot b,
      among_keeps NoLibrary Once part_once declares_keep body inner (among_once body (with_names params []) p.1 inner)
          (names_keep NoLibrary params (fresh_keep [] params p.0) (env_after f level.names) (level_fresh f level k h)) s spot b,
    )
body_once (item.Cle p line) level k h s spot b = absurd b

pub statement_fresh : (i : Item) (level : Level) → ItemOnce i level → NoLibrary level.names → (x : Expr) (there : Env) → (s : Stmt) (spot : Spot) → InBody i level.names s spot → Evaluates (out-Act s.node) spot x there → NoLibrary there
statement_fresh i level k h x there s spot b v = at_once (body_once i level k h b.outermost b.spot b.among)
  where
    at_once : OnceIn b.outermost × NoLibrary b.spot.names → NoLibrary there
    at_once o =
        evaluates_keeps NoLibrary Once part_once declares_keep s spot (stands_all NoLibrary Once part_once declares_keep s spot b.outermost b.spot b.stands o.0)
        (stands_keeps NoLibrary Once part_once declares_keep s spot b.outermost b.spot b.stands o.0 o.1) x there v

variables_fresh : (d : _) (level : Level) → ItemOnce (item.Variables d) level → NoLibrary level.names → (x : Expr) (there : Env) → Initialises d.names level.names x there → NoLibrary there
unfolding item_twice
variables_fresh d level k h x there i = initialises_keep NoLibrary d.names (fresh_keep level.names d.names k.1) level.names h x there i

pub evaluated_fresh : (i : Item) (level : Level) → ItemOnce i level → NoLibrary level.names → (x : Expr) (there : Env) → ItemEvaluates i level.names x there → NoLibrary there
evaluated_fresh (item.Struct name members line) level k h x there v = statement_fresh _ level k h x there v.0 v.1 v.2 v.3
evaluated_fresh (item.Variables d) level k h x there v = variables_fresh d level k h x there v
evaluated_fresh (item.Function is_static result name void_word params body line second) level k h x there v = statement_fresh _ level k h x there v.0 v.1 v.2 v.3
evaluated_fresh (item.Cle p line) level k h x there v = statement_fresh _ level k h x there v.0 v.1 v.2 v.3

no_library_at_first : NoLibrary []
unfolding meaning
no_library_at_first name e = refl

pub program_fresh : (program : Program) → twice program ≡ [] → (i : Item) (level : Level) → ItemStands program i level → NoLibrary level.names
program_fresh program e i level h = levels_fresh program.items outermost (program_once program e) no_library_at_first i level h

pub library_unbound : (program : Program) → twice program ≡ [] → (tags there : Env) (x : Expr) → Stands program tags there x → NoLibrary there
library_unbound program e tags there x h =
    evaluated_fresh h.item h.level (program_once program e h.item h.level h.stands) (program_fresh program e h.item h.level h.stands) h.root there h.evaluates
