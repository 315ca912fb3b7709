-- Items: what stands in a program in which no rule of names and types fails.
use Rattle.std.proofs.Common.{◌≡◌, List, [], ◌∷◌, sym, true, ◌&&◌, Some, None, subst, inl, inr}
use Rattle.cl_tree.specs.declared.tree.Expr.{Expr}
use Rattle.cl_tree.specs.declared.tree.Declarator.{Declarator}
use Rattle.cl_tree.specs.declared.tree.Stmt.{Stmt}
use Rattle.cl_tree.specs.declared.tree.Act.{out-Act}
use Rattle.cl_tree.specs.declared.tree.Item.{Item}
use Rattle.cl_tree.specs.declared.tree.Item.TheVariants as item
use Rattle.cl_tree.specs.declared.tree.Program.{Program}
use Rattle.cl_typing.specs.Rules.{unless}
use Rattle.cl_typing.specs.Scope.{Env, types_of, env_after, defined_in}
use Rattle.cl_typing.specs.Unknown.{Known, body_unknown, types_unknown, has_tag, item_unknown, items_unknown, unknown}
use Rattle.cl_typing.specs.Wrong.{stmt_wrong, body_wrong, types_wrong, members_wrong, agrees, item_wrong, items_wrong, wrong}
use Rattle.cl_typing.specs.Wrong as wrongs
use Rattle.cl_typing.specs.Types.{is_result_type, is_object_type}
use Rattle.cl_typing.specs.Scope.{meaning}
use Rattle.typing_laws.specs.Standing.{OneOf, Level, outermost, level_after, AmongItems, ItemStands, Spot, body_spot, Initialises, Evaluates, BodyHas, InBody, result_of, ItemEvaluates, Stands}
use Rattle.typing_laws.specs.Typed.{HasType, ActFits, ItemFits}
use Rattle.typing_laws.proofs.Lists.{none_of, none_in, both, holds}
use Rattle.typing_laws.proofs.Expressions.{inside_unknown, inside_type}
use Rattle.typing_laws.proofs.StatementNames.{KnownAt, NamesKnown, among_known, stands_known, evaluates_known, initialises_known}
use Rattle.typing_laws.proofs.StatementTypes.{RightAt, among_right, stands_right, act_fits, names_of}
use Rattle.typing_laws.proofs.Evaluated.{evaluates_type, initialises}

-- ---- what is known at a level of a program

abbrev pub known_at : Env → Env → Known
known_at defined tags = record { tags = tags; defined = defined }

module _ (defined : Env) where
  abbrev pub ItemKnown : Item → Level → Type 0
  ItemKnown i level = item_unknown (known_at defined level.tags) level.names i ≡ []

  item_same : (i j : Item) (a b : Level) → i ≡ j → a ≡ b → ItemKnown j b → ItemKnown i a
  item_same i j a b p q h = subst (λ (w : Item). ItemKnown w a) (sym p) (subst (λ (w : Level). ItemKnown j w) (sym q) h)

  pub items_known : (is : List Item) (level : Level) → items_unknown (known_at defined level.tags) level.names is ≡ [] → (i : Item) (there : Level) → AmongItems is level i there → ItemKnown i there
  unfolding items_unknown
  items_known [] level e i there h = absurd h
  items_known (j ∷ is) level e i there (inl h) = item_same i j there level h.0 h.1 (none_of _ _ e).0
  items_known (j ∷ is) level e i there (inr h) =
      items_known is (level_after j level) (none_of (item_unknown (known_at defined level.tags) level.names j) _ e).1 i there h

abbrev pub ItemRight : Item → Level → Type 0
ItemRight i level = item_wrong level.tags level.names i ≡ []

right_same : (i j : Item) (a b : Level) → i ≡ j → a ≡ b → ItemRight j b → ItemRight i a
right_same i j a b p q h = subst (λ (w : Item). ItemRight w a) (sym p) (subst (λ (w : Level). ItemRight j w) (sym q) h)

pub items_right : (is : List Item) (level : Level) → items_wrong level.tags level.names is ≡ [] → (i : Item) (there : Level) → AmongItems is level i there → ItemRight i there
unfolding items_wrong
items_right [] level e i there h = absurd h
items_right (j ∷ is) level e i there (inl h) = right_same i j there level h.0 h.1 (none_of _ _ e).0
items_right (j ∷ is) level e i there (inr h) = items_right is (level_after j level) (none_of (item_wrong level.tags level.names j) _ e).1 i there h

-- ---- what stands in an item

module _ (defined : Env) where
  pub body_known : (i : Item) (level : Level) → ItemKnown defined i level → (s : Stmt) (spot : Spot) → BodyHas i level.names s spot → KnownAt (known_at defined level.tags) s spot
  unfolding item_unknown body_unknown
  body_known (item.Struct name members line) level e s spot h = absurd h
  body_known (item.Variables d) level e s spot h = absurd h
  body_known (item.Function is_static result name void_word params None line second) level e s spot h = absurd h
  body_known (item.Function is_static result name void_word params (Some body) line second) level e s spot h =
      among_known (known_at defined level.tags) body
      (body_spot params (env_after (item.Function is_static result name void_word params (Some body) line second) level.names))
      (none_of (types_unknown level.tags params) _ (none_of (unless (has_tag level.tags result) second) _ e).1).1 s spot h
  body_known (item.Cle p line) level e s spot h = absurd h

  pub in_body_known : (i : Item) (level : Level) → ItemKnown defined i level → (s : Stmt) (there : Spot) → InBody i level.names s there → KnownAt (known_at defined level.tags) s there
  in_body_known i level e s there h =
      stands_known (known_at defined level.tags) s there h.outermost h.spot h.stands (body_known i level e h.outermost h.spot h.among)

  variables_known : (d : _) (level : Level) → ItemKnown defined (item.Variables d) level → (x : Expr) (there : Env) → Initialises d.names level.names x there → NamesKnown (known_at defined level.tags) x there
  unfolding item_unknown
  variables_known d level e x there h = initialises_known (known_at defined level.tags) d.names level.names e x there h

  in_statement : (i : Item) (level : Level) → ItemKnown defined i level → (x : Expr) (there : Env) → (s : Stmt) (spot : Spot) → InBody i level.names s spot → Evaluates (out-Act s.node) spot x there → NamesKnown (known_at defined level.tags) x there
  in_statement i level e x there s spot h v = evaluates_known (known_at defined level.tags) s spot (in_body_known i level e s spot h) x there v

  pub evaluated_known : (i : Item) (level : Level) → ItemKnown defined i level → (x : Expr) (there : Env) → ItemEvaluates i level.names x there → NamesKnown (known_at defined level.tags) x there
  evaluated_known (item.Struct name members line) level e x there h = in_statement _ level e x there h.0 h.1 h.2 h.3
  evaluated_known (item.Variables d) level e x there h = variables_known d level e x there h
  evaluated_known (item.Function is_static result name void_word params body line second) level e x there h = in_statement _ level e x there h.0 h.1 h.2 h.3
  evaluated_known (item.Cle p line) level e x there h = in_statement _ level e x there h.0 h.1 h.2 h.3

-- ---- types

abbrev pub inside_of : Item → Env → wrongs.Inside
inside_of i tags = record { tags = tags; result = result_of i }

pub body_right : (i : Item) (level : Level) → ItemRight i level → (s : Stmt) (spot : Spot) → BodyHas i level.names s spot → RightAt (inside_of i level.tags) s spot
unfolding item_wrong body_wrong
body_right (item.Struct name members line) level e s spot h = absurd h
body_right (item.Variables d) level e s spot h = absurd h
body_right (item.Function is_static result name void_word params None line second) level e s spot h = absurd h
body_right (item.Function is_static result name void_word params (Some body) line second) level e s spot h =
    among_right (inside_of (item.Function is_static result name void_word params (Some body) line second) level.tags) body
    (body_spot params (env_after (item.Function is_static result name void_word params (Some body) line second) level.names))
    (none_of (types_wrong params) _ (none_of (unless (is_result_type result && agrees (meaning level.names name) result (types_of params)) line) _ e).1).1 s spot h
body_right (item.Cle p line) level e s spot h = absurd h

pub in_body_right : (i : Item) (level : Level) → ItemRight i level → (s : Stmt) (there : Spot) → InBody i level.names s there → RightAt (inside_of i level.tags) s there
in_body_right i level e s there h =
    stands_right (inside_of i level.tags) s there h.outermost h.spot h.stands (body_right i level e h.outermost h.spot h.among)

pub statement_fits : (i : Item) (level : Level) → ItemRight i level → (s : Stmt) (there : Spot) → InBody i level.names s there → ActFits level.tags (result_of i) (out-Act s.node) there
statement_fits i level e s there h = act_fits (inside_of i level.tags) s there (in_body_right i level e s there h)

object_types : (ds : List Declarator) → types_wrong ds ≡ [] → (d : Declarator) → OneOf ds d → is_object_type d.ctype ≡ true
unfolding types_wrong
object_types ds e d o = holds _ d.second (none_in (λ c. unless (is_object_type c.ctype) c.second) ds e d o)

pub item_fits : (i : Item) (level : Level) → ItemRight i level → ItemFits i level
unfolding item_wrong members_wrong
item_fits (item.Struct name members line) level e = λ m d o q. object_types m.names (none_in (λ n. types_wrong n.names) members e m o) d q
item_fits (item.Variables d) level e = names_of level.tags true d.names level.names e
item_fits (item.Function is_static result name void_word params body line second) level e =
    let p = none_of (unless (is_result_type result && agrees (meaning level.names name) result (types_of params)) line) _ e in
    let q = both (is_result_type result) _ (holds _ line p.0) in
    (q.0, object_types params (none_of (types_wrong params) _ p.1).0)
item_fits (item.Cle p line) level e = tt

statement_type : (i : Item) (level : Level) → ItemRight i level → (x : Expr) (there : Env) → (s : Stmt) (spot : Spot) → InBody i level.names s spot → Evaluates (out-Act s.node) spot x there → HasType level.tags there x
statement_type i level e x there s spot h v = evaluates_type level.tags (result_of i) (out-Act s.node) spot (statement_fits i level e s spot h) x there v

pub evaluated_type : (i : Item) (level : Level) → ItemRight i level → (x : Expr) (there : Env) → ItemEvaluates i level.names x there → HasType level.tags there x
evaluated_type (item.Struct name members line) level e x there h = statement_type _ level e x there h.0 h.1 h.2 h.3
evaluated_type (item.Variables d) level e x there h = initialises level.tags level.names true d.names (item_fits (item.Variables d) level e) x there h
evaluated_type (item.Function is_static result name void_word params body line second) level e x there h = statement_type _ level e x there h.0 h.1 h.2 h.3
evaluated_type (item.Cle p line) level e x there h = statement_type _ level e x there h.0 h.1 h.2 h.3

-- ---- what stands in a program

abbrev pub defined_by : Program → Env
defined_by program = defined_in program.items []

pub program_known : (program : Program) → unknown program ≡ [] → (i : Item) (level : Level) → ItemStands program i level → ItemKnown (defined_by program) i level
unfolding unknown
program_known program e i level h = items_known (defined_by program) program.items outermost e i level h

pub program_right : (program : Program) → wrong program ≡ [] → (i : Item) (level : Level) → ItemStands program i level → ItemRight i level
unfolding wrong
program_right program e i level h = items_right program.items outermost e i level h

pub expression_known : (program : Program) → unknown program ≡ [] → (tags there : Env) (x : Expr) → Stands program tags there x → NamesKnown (known_at (defined_by program) tags) x there
expression_known program e tags there x h =
    let k = program_known program e h.item h.level h.stands in
    let r = evaluated_known (defined_by program) h.item h.level k h.root there h.evaluates in
    let s = inside_unknown (known_at (defined_by program) h.level.tags) there x h.root h.inside r in
    subst (λ (w : Env). NamesKnown (known_at (defined_by program) w) x there) (sym h.tags_are) s

pub expression_type : (program : Program) → wrong program ≡ [] → (tags there : Env) (x : Expr) → Stands program tags there x → HasType tags there x
expression_type program e tags there x h =
    let k = program_right program e h.item h.level h.stands in
    let r = evaluated_type h.item h.level k h.root there h.evaluates in
    let s = inside_type h.level.tags there x h.root h.inside r in
    subst (λ (w : Env). HasType w there x) (sym h.tags_are) s
