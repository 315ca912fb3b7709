-- Statements: in the parts of one in which every name is known, and in its expressions, every name is known.
use Rattle.std.proofs.Common.{◌≡◌, List, [], ◌∷◌, map, refl, sym, ap, ◌∙◌, Bool, true, false, Option, Some, None, option_map, subst, bytes_eq, codes, if◌then◌else◌, inl, inr}
use Rattle.cl_tree.specs.declared.tree.Expr.{Expr}
use Rattle.cl_tree.specs.declared.tree.Node.{Node, Node-F, out-Node}
use Rattle.cl_tree.specs.declared.tree.Node.TheOpen as node
use Rattle.cl_tree.specs.declared.tree.Init.{Init, Init-F, out-Init, map-Init}
use Rattle.cl_tree.specs.declared.tree.Init.TheOpen as init
use Rattle.cl_tree.specs.declared.tree.Declarator.{Declarator}
use Rattle.cl_tree.specs.declared.tree.Stmt.{Stmt}
use Rattle.cl_tree.specs.declared.tree.Act.{Act, Act-F, out-Act}
use Rattle.cl_tree.specs.declared.tree.Act.TheOpen as act
use Rattle.cl_typing.specs.Rules.{Lines, unless, optional}
use Rattle.cl_typing.specs.Scope.{Env, Scoped, in_order, bound, with_names}
use Rattle.cl_typing.specs.Unknown.{Known, expr_unknown, init_step, init_unknown, has_tag, declarator_unknown, names_unknown, act_unknown, stmt_unknown}
use Rattle.typing_laws.specs.Standing.{OneOf, Spot, act_declares, declares, spot_after, spot_after_first, AmongStmts, PartOf, StandsIn, itself, in_part, InInit, one, in_braces, AmongNames, Initialises, rest_of, call_evaluates, Evaluates, ChildOf}
use Rattle.typing_laws.proofs.Lists.{none_of, none_each}
use Rattle.typing_laws.proofs.Levels.{init_unknown_is, unknown_parts, stmt_unknown_is}
use Rattle.typing_laws.proofs.Expressions.{child_unknown}

module _ (known : Known) where
  act_names : (y : Act-F Act Stmt) → (act_unknown known (unknown_parts known y)).declares ≡ act_declares y
  act_names act.Empty = refl
  act_names (act.Block ss) = refl
  act_names (act.Set op place value) = refl
  act_names (act.Bump up prefix place) = refl
  act_names (act.Call e) = refl
  act_names (act.If c a None) = refl
  act_names (act.If c a (Some b)) = refl
  act_names (act.While c body) = refl
  act_names (act.DoWhile body c) = refl
  act_names (act.For None test None body) = refl
  act_names (act.For None test (Some n) body) = refl
  act_names (act.For (Some f) test None body) = refl
  act_names (act.For (Some f) test (Some n) body) = refl
  act_names (act.Return e) = refl
  act_names act.Break = refl
  act_names act.Continue = refl
  act_names (act.Declare d) = refl
  act_names (act.Cle p) = refl

  pub stmt_names : (s : Stmt) → (stmt_unknown known s).declares ≡ declares s
  stmt_names s = ap (λ (w : Scoped). w.declares) (stmt_unknown_is known s) ∙ act_names (out-Act s.node)

  -- every name in the statement is known, where it stands at this spot
  abbrev pub KnownAt : Stmt → Spot → Type 0
  KnownAt s spot = (stmt_unknown known s).places spot.names ≡ []

  at_same : (s t : Stmt) (there spot : Spot) → s ≡ t → there ≡ spot → KnownAt t spot → KnownAt s there
  at_same s t there spot e f h = subst (λ (w : Stmt). KnownAt w there) (sym e) (subst (λ (w : Spot). KnownAt t w) (sym f) h)

  after_names : (s : Stmt) (names : Env) → with_names (stmt_unknown known s).declares names ≡ with_names (declares s) names
  after_names s names = ap (λ (ds : List Declarator). with_names ds names) (stmt_names s)

  pub among_known : (ss : List Stmt) (spot : Spot) → in_order (map (stmt_unknown known) ss) spot.names ≡ [] → (s : Stmt) (there : Spot) → AmongStmts ss spot s there → KnownAt s there
  unfolding in_order
  among_known [] spot e s there h = absurd h
  among_known (t ∷ ss) spot e s there (inl h) = at_same s t there spot h.0 h.1 (none_of _ _ e).0
  among_known (t ∷ ss) spot e s there (inr h) =
      among_known ss (spot_after t spot)
      (ap (in_order (map (stmt_unknown known) ss)) (sym (after_names t spot.names)) ∙ (none_of ((stmt_unknown known t).places spot.names) _ e).1)
      s there h

  some_same : (a b : Stmt) → ◌≡◌ {A = Option Stmt} (Some a) (Some b) → b ≡ a
  some_same a b e = cc

  moved : (a s : Stmt) (env inner : Env) → s ≡ a → inner ≡ env → (stmt_unknown known a).places env ≡ [] → (stmt_unknown known s).places inner ≡ []
  moved a s env inner e f h = subst (λ (w : Stmt). (stmt_unknown known w).places inner ≡ []) (sym e) (subst (λ (w : Env). (stmt_unknown known a).places w ≡ []) (sym f) h)

  names_at : (a b : Spot) → a ≡ b → a.names ≡ b.names
  names_at a b e = ap (λ (w : Spot). w.names) e

  part_step : (y : Act-F Act Stmt) (spot : Spot) → (act_unknown known (unknown_parts known y)).places spot.names ≡ [] → (s : Stmt) (there : Spot) → PartOf y spot s there → KnownAt s there
  part_step act.Empty spot e s there h = absurd h
  part_step (act.Block ss) spot e s there h = among_known ss spot e s there h
  part_step (act.Set op place value) spot e s there h = absurd h
  part_step (act.Bump up prefix place) spot e s there h = absurd h
  part_step (act.Call x) spot e s there h = absurd h
  part_step (act.If c a None) spot e s there (inl p, q) = moved a s spot.names there.names p (names_at there spot q) (none_of _ _ (none_of (expr_unknown known spot.names c) _ e).1).0
  part_step (act.If c a None) spot e s there (inr p, q) = absurd cc
  part_step (act.If c a (Some b)) spot e s there (inl p, q) = moved a s spot.names there.names p (names_at there spot q) (none_of _ _ (none_of (expr_unknown known spot.names c) _ e).1).0
  part_step (act.If c a (Some b)) spot e s there (inr p, q) = moved b s spot.names there.names (some_same b s p) (names_at there spot q) (none_of ((stmt_unknown known a).places spot.names) _ (none_of (expr_unknown known spot.names c) _ e).1).1
  part_step (act.While c body) spot e s there h = moved body s spot.names there.names h.0 (ap (λ (w : Spot). w.names) h.1) (none_of (expr_unknown known spot.names c) _ e).1
  part_step (act.DoWhile body c) spot e s there h = moved body s spot.names there.names h.0 (ap (λ (w : Spot). w.names) h.1) (none_of _ _ e).0
  part_step (act.For None test None body) spot e s there (inl h) = absurd cc
  part_step (act.For None test None body) spot e s there (inr (inl h)) = absurd cc
  part_step (act.For None test None body) spot e s there (inr (inr h)) = moved body s spot.names there.names h.0 (ap (λ (w : Spot). w.names) h.1) (none_of (optional (option_map (expr_unknown known spot.names) test)) _ e).1
  part_step (act.For None test (Some n) body) spot e s there (inl h) = absurd cc
  part_step (act.For None test (Some n) body) spot e s there (inr (inl h)) = moved n s spot.names there.names (some_same n s h.0) (names_at there spot h.1) (none_of _ _ (none_of (optional (option_map (expr_unknown known spot.names) test)) _ e).1).0
  part_step (act.For None test (Some n) body) spot e s there (inr (inr h)) = moved body s spot.names there.names h.0 (ap (λ (w : Spot). w.names) h.1) (none_of ((stmt_unknown known n).places spot.names) _ (none_of (optional (option_map (expr_unknown known spot.names) test)) _ e).1).1
  part_step (act.For (Some f) test None body) spot e s there (inl h) = moved f s spot.names there.names (some_same f s h.0) (names_at there spot h.1) (none_of _ _ e).0
  part_step (act.For (Some f) test None body) spot e s there (inr (inl h)) = absurd cc
  part_step (act.For (Some f) test None body) spot e s there (inr (inr h)) =
      moved body s _ there.names h.0 (ap (λ (w : Spot). w.names) h.1 ∙ sym (after_names f spot.names))
      (none_of (optional (option_map (expr_unknown known (with_names (stmt_unknown known f).declares spot.names)) test)) _ (none_of ((stmt_unknown known f).places spot.names) _ e).1).1
  part_step (act.For (Some f) test (Some n) body) spot e s there (inl h) = moved f s spot.names there.names (some_same f s h.0) (names_at there spot h.1) (none_of _ _ e).0
  part_step (act.For (Some f) test (Some n) body) spot e s there (inr (inl h)) =
      moved n s _ there.names (some_same n s h.0) (ap (λ (w : Spot). w.names) h.1 ∙ sym (after_names f spot.names))
      (none_of _ _ (none_of (optional (option_map (expr_unknown known (with_names (stmt_unknown known f).declares spot.names)) test)) _ (none_of ((stmt_unknown known f).places spot.names) _ e).1).1).0
  part_step (act.For (Some f) test (Some n) body) spot e s there (inr (inr h)) =
      moved body s _ there.names h.0 (ap (λ (w : Spot). w.names) h.1 ∙ sym (after_names f spot.names))
      (none_of ((stmt_unknown known n).places (with_names (stmt_unknown known f).declares spot.names)) _ (none_of (optional (option_map (expr_unknown known (with_names (stmt_unknown known f).declares spot.names)) test)) _ (none_of ((stmt_unknown known f).places spot.names) _ e).1).1).1
  part_step (act.Return x) spot e s there h = absurd h
  part_step act.Break spot e s there h = absurd h
  part_step act.Continue spot e s there h = absurd h
  part_step (act.Declare d) spot e s there h = absurd h
  part_step (act.Cle p) spot e s there h = absurd h

  level : (s : Stmt) (spot : Spot) → KnownAt s spot → (act_unknown known (unknown_parts known (out-Act s.node))).places spot.names ≡ []
  level s spot h = ap (λ (w : Scoped). w.places spot.names) (sym (stmt_unknown_is known s)) ∙ h

  pub part_known : (t : Stmt) (spot : Spot) → KnownAt t spot → (s : Stmt) (there : Spot) → PartOf (out-Act t.node) spot s there → KnownAt s there
  part_known t spot h s there p = part_step (out-Act t.node) spot (level t spot h) s there p

  pub stands_known : (s : Stmt) (there : Spot) (t : Stmt) (spot : Spot) → StandsIn s there t spot → KnownAt t spot → KnownAt s there
  stands_known s there t spot itself h = h
  stands_known s there t spot (in_part part inner p i) h = stands_known s there part inner i (part_known t spot h part inner p)

  -- ---- expressions

  abbrev pub NamesKnown : Expr → Env → Type 0
  NamesKnown x names = expr_unknown known names x ≡ []

  known_same : (x e : Expr) (there names : Env) → x ≡ e → there ≡ names → NamesKnown e names → NamesKnown x there
  known_same x e there names p q h = subst (λ (w : Expr). NamesKnown w there) (sym p) (subst (λ (w : Env). NamesKnown e w) (sym q) h)

  init_level : (i : Init) (names : Env) (y : Init-F Init) → out-Init i ≡ y → init_unknown known names i ≡ [] → init_step known names (map-Init Init Lines (init_unknown known names) y) ≡ []
  init_level i names y p h = ap (λ (w : Init-F Init). init_step known names (map-Init Init Lines (init_unknown known names) w)) (sym p) ∙ sym (init_unknown_is known names i) ∙ h

  pub init_known : (x : Expr) (i : Init) (names : Env) → InInit x i → init_unknown known names i ≡ [] → NamesKnown x names
  init_known x i names (one p) h = init_level i names (init.One x) p h
  init_known x i names (in_braces parts part p o r) h =
      init_known x part names r (none_each (init_unknown known names) parts (init_level i names (init.Many parts) p h) part o)

  own_init : (d : Declarator) (names : Env) (i : Init) → declarator_unknown known names d ≡ [] → d.init ≡ Some i → init_unknown known (bound d ∷ names) i ≡ []
  unfolding declarator_unknown
  own_init d names i h p =
      ap (λ (w : Option Init). optional (option_map (init_unknown known (bound d ∷ names)) w)) (sym p)
      ∙ (none_of (unless (has_tag known.tags d.ctype) d.line) _ h).1

  pub among_names_known : (ds : List Declarator) (names : Env) → names_unknown known names ds ≡ [] → (d : Declarator) (before : Env) → AmongNames ds names d before → declarator_unknown known before d ≡ []
  unfolding names_unknown
  among_names_known [] names e d before h = absurd h
  among_names_known (c ∷ ds) names e d before (inl h) =
      subst (λ (w : Declarator). declarator_unknown known before w ≡ []) (sym h.0)
      (subst (λ (w : Env). declarator_unknown known w c ≡ []) (sym h.1) (none_of _ _ e).0)
  among_names_known (c ∷ ds) names e d before (inr h) = among_names_known ds (bound c ∷ names) (none_of (declarator_unknown known names c) _ e).1 d before h

  pub initialises_known : (ds : List Declarator) (names : Env) → names_unknown known names ds ≡ [] → (x : Expr) (there : Env) → Initialises ds names x there → NamesKnown x there
  initialises_known ds names e x there h =
      subst (λ (w : Env). NamesKnown x w) (sym h.known)
      (init_known x h.init (bound h.declarator ∷ h.before) h.inside
      (own_init h.declarator h.before h.init (among_names_known ds names e h.declarator h.before h.among) h.is_its))

  just : (e x : Expr) (names : Env) → OneOf (e ∷ []) x → NamesKnown e names → NamesKnown x names
  just e x names (inl p) h = known_same x e names names p refl h
  just e x names (inr p) h = absurd p

  rest_one : (es : List Expr) (x : Expr) → OneOf (rest_of es) x → OneOf es x
  rest_one [] x o = absurd o
  rest_one (e ∷ es) x o = inr o

  by_name : (e x : Expr) (names : Env) (arguments : List Expr) (prints puts : Bool) → ((y : Expr) → OneOf arguments y → NamesKnown y names) → NamesKnown e names → OneOf (if prints then rest_of arguments else (if puts then arguments else e ∷ [])) x → NamesKnown x names
  by_name e x names arguments true puts all h o = all x (rest_one arguments x o)
  by_name e x names arguments false true all h o = all x o
  by_name e x names arguments false false all h o = just e x names o h

  call_known : (e x : Expr) (names : Env) (y : Node-F Node Expr) → out-Node e.node ≡ y → NamesKnown e names → OneOf (call_evaluates e y) x → NamesKnown x names
  call_known e x names (node.Call name arguments) p h o =
      by_name e x names arguments (bytes_eq name (codes "printf")) (bytes_eq name (codes "putchar"))
      (λ z c. child_unknown known names e h z (subst (λ (w : Node-F Node Expr). ChildOf w z) (sym p) c)) h o
  call_known e x names _ p h o = just e x names o h

  maybe_known : (o : Option Expr) (x : Expr) (names : Env) → optional (option_map (expr_unknown known names) o) ≡ [] → o ≡ Some x → NamesKnown x names
  maybe_known o x names h p = ap (λ (w : Option Expr). optional (option_map (expr_unknown known names) w)) (sym p) ∙ h

  test_known : (first : Option Stmt) (spot : Spot) (test : Option Expr) (next : Option Stmt) (body : Stmt) → (act_unknown known (unknown_parts known (act.For first test next body))).places spot.names ≡ []
      → optional (option_map (expr_unknown known (spot_after_first first spot).names) test) ≡ []
  test_known None spot test None body e = (none_of _ _ e).0
  test_known None spot test (Some n) body e = (none_of _ _ e).0
  test_known (Some f) spot test None body e =
      ap (λ (w : Env). optional (option_map (expr_unknown known w) test)) (sym (after_names f spot.names))
      ∙ (none_of _ _ (none_of ((stmt_unknown known f).places spot.names) _ e).1).0
  test_known (Some f) spot test (Some n) body e =
      ap (λ (w : Env). optional (option_map (expr_unknown known w) test)) (sym (after_names f spot.names))
      ∙ (none_of _ _ (none_of ((stmt_unknown known f).places spot.names) _ e).1).0

  evaluates_step : (y : Act-F Act Stmt) (spot : Spot) → (act_unknown known (unknown_parts known y)).places spot.names ≡ [] → (x : Expr) (there : Env) → Evaluates y spot x there → NamesKnown x there
  evaluates_step act.Empty spot e x there h = absurd h
  evaluates_step (act.Block ss) spot e x there h = absurd h
  evaluates_step (act.Set op place value) spot e x there (inl p, q) = known_same x place there spot.names p q (none_of _ _ e).0
  evaluates_step (act.Set op place value) spot e x there (inr p, q) = known_same x value there spot.names p q (none_of (expr_unknown known spot.names place) _ e).1
  evaluates_step (act.Bump up prefix place) spot e x there h = known_same x place there spot.names h.0 h.1 e
  evaluates_step (act.Call c) spot e x there h = subst (λ (w : Env). NamesKnown x w) (sym h.1) (call_known c x spot.names (out-Node c.node) refl e h.0)
  evaluates_step (act.If c a None) spot e x there h = known_same x c there spot.names h.0 h.1 (none_of _ _ e).0
  evaluates_step (act.If c a (Some b)) spot e x there h = known_same x c there spot.names h.0 h.1 (none_of _ _ e).0
  evaluates_step (act.While c body) spot e x there h = known_same x c there spot.names h.0 h.1 (none_of _ _ e).0
  evaluates_step (act.DoWhile body c) spot e x there h = known_same x c there spot.names h.0 h.1 (none_of ((stmt_unknown known body).places spot.names) _ e).1
  evaluates_step (act.For first test next body) spot e x there h =
      subst (λ (w : Env). NamesKnown x w) (sym h.1) (maybe_known test x _ (test_known first spot test next body e) h.0)
  evaluates_step (act.Return o) spot e x there h = subst (λ (w : Env). NamesKnown x w) (sym h.1) (maybe_known o x spot.names e h.0)
  evaluates_step act.Break spot e x there h = absurd h
  evaluates_step act.Continue spot e x there h = absurd h
  evaluates_step (act.Declare d) spot e x there h = initialises_known d.names spot.names e x there h
  evaluates_step (act.Cle p) spot e x there h = absurd h

  pub evaluates_known : (s : Stmt) (spot : Spot) → KnownAt s spot → (x : Expr) (there : Env) → Evaluates (out-Act s.node) spot x there → NamesKnown x there
  evaluates_known s spot h x there v = evaluates_step (out-Act s.node) spot (level s spot h) x there v
