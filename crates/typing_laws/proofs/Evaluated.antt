-- What a statement evaluates has a type.
use Rattle.std.proofs.Common.{◌≡◌, List, [], ◌∷◌, refl, sym, Bool, true, false, Option, Some, None, subst, bytes_eq, codes, if◌then◌else◌, inl, inr}
use Rattle.cl_tree.specs.declared.tree.CType.{CType}
use Rattle.cl_tree.specs.declared.tree.CType.TheVariants.{Integer, Struct}
use Rattle.cl_tree.specs.declared.tree.Expr.{Expr}
use Rattle.cl_tree.specs.declared.tree.Node.{Node, Node-F, out-Node}
use Rattle.cl_tree.specs.declared.tree.Init.{Init, out-Init}
use Rattle.cl_tree.specs.declared.tree.Init.TheOpen as init
use Rattle.cl_tree.specs.declared.tree.Declarator.{Declarator}
use Rattle.cl_tree.specs.declared.tree.Stmt.{Stmt}
use Rattle.cl_tree.specs.declared.tree.Act.{Act, Act-F, out-Act}
use Rattle.cl_tree.specs.declared.tree.Act.TheOpen as act
use Rattle.cl_typing.specs.declared.format.Want.{Want}
use Rattle.cl_typing.specs.Scope.{Field, Env, bound}
use Rattle.cl_typing.specs.Wrong.{Inside}
use Rattle.typing_laws.specs.Standing.{OneOf, Spot, spot_after_first, AmongNames, InInit, one, in_braces, Initialises, rest_of, call_evaluates, Evaluates}
use Rattle.typing_laws.specs.Typed.{HasType, IsInteger, Takes, an_integer, a_struct, InitFits, by_value, of_array, of_struct, ElementsFit, and_element, MembersFit, and_member, NameFits, AllWanted, CallFits, prints, puts, calls, ActFits}
use Rattle.typing_laws.proofs.Lists.{same_word}
use Rattle.typing_laws.proofs.StatementTypes.{RightAt, act_fits}

module _ (tags : Env) where
  taken_type : (names : Env) (t : CType) (e : Expr) → Takes tags names t e → HasType tags names e
  taken_type names t e (an_integer k l p q) = (Integer l, q)
  taken_type names t e (a_struct tag p q) = (Struct tag, q)

  integer_type : (names : Env) (e : Expr) → IsInteger tags names e → HasType tags names e
  integer_type names e h = (Integer h.0, h.1)

  same_has : (x e : Expr) (there names : Env) → x ≡ e → there ≡ names → HasType tags names e → HasType tags there x
  same_has x e there names p q h = subst (λ (w : Expr). HasType tags there w) (sym p) (subst (λ (w : Env). HasType tags w e) (sym q) h)

  -- ---- initialisers

  one_not_many : (e : Expr) (parts : List Init) (i : Init) → out-Init i ≡ init.One e → out-Init i ≡ init.Many parts → ⊥
  one_not_many e parts i p q = cc

  one_is : (e x : Expr) (i : Init) → out-Init i ≡ init.One e → out-Init i ≡ init.One x → x ≡ e
  one_is e x i p q = cc

  many_is : (ps qs : List Init) (i : Init) → out-Init i ≡ init.Many ps → out-Init i ≡ init.Many qs → qs ≡ ps
  many_is ps qs i p q = cc

  element_fits : (names : Env) (is_static : Bool) (t : CType) (parts : List Init) → ElementsFit tags names is_static t parts → (part : Init) → OneOf parts part → InitFits tags names is_static part t
  element_fits names is_static t [] h part o = absurd o
  element_fits names is_static t (i ∷ parts) (and_element f rest) part (inl o) = subst (λ (w : Init). InitFits tags names is_static w t) (sym o) f
  element_fits names is_static t (i ∷ parts) (and_element f rest) part (inr o) = element_fits names is_static t parts rest part o

  member_fits : (names : Env) (is_static : Bool) (ms : List Field) (parts : List Init) → MembersFit tags names is_static ms parts → (part : Init) → OneOf parts part → (t : CType) × InitFits tags names is_static part t
  member_fits names is_static ms [] h part o = absurd o
  member_fits names is_static [] (i ∷ parts) h part o = absurd (elim h [ ])
  member_fits names is_static (m ∷ ms) (i ∷ parts) (and_member f rest) part (inl o) = (m.ctype, subst (λ (w : Init). InitFits tags names is_static w m.ctype) (sym o) f)
  member_fits names is_static (m ∷ ms) (i ∷ parts) (and_member f rest) part (inr o) = member_fits names is_static ms parts rest part o

  value_type : (names : Env) (is_static : Bool) (x : Expr) (i : Init) (t : CType) → out-Init i ≡ init.One x → InitFits tags names is_static i t → HasType tags names x
  value_type names is_static x i t p (by_value e q r s) = same_has x e names names (one_is e x i q p) refl (taken_type names t e r)
  value_type names is_static x i t p (of_array parts u n q r s f) = absurd (one_not_many x parts i p q)
  value_type names is_static x i t p (of_struct parts tag ms q r s f) = absurd (one_not_many x parts i p q)

  part_fits : (names : Env) (is_static : Bool) (parts : List Init) (part : Init) (i : Init) (t : CType) → out-Init i ≡ init.Many parts → OneOf parts part → InitFits tags names is_static i t → (u : CType) × InitFits tags names is_static part u
  part_fits names is_static parts part i t p o (by_value e q r s) = absurd (one_not_many e parts i q p)
  part_fits names is_static parts part i t p o (of_array qs u n q r s f) = (u, element_fits names is_static u qs f part (subst (λ (w : List Init). OneOf w part) (many_is qs parts i q p) o))
  part_fits names is_static parts part i t p o (of_struct qs tag ms q r s f) = member_fits names is_static ms qs f part (subst (λ (w : List Init). OneOf w part) (many_is qs parts i q p) o)

  pub in_init : (names : Env) (is_static : Bool) (x : Expr) (i : Init) (t : CType) → InInit x i → InitFits tags names is_static i t → HasType tags names x
  in_init names is_static x i t (one p) f = value_type names is_static x i t p f
  in_init names is_static x i t (in_braces parts part p o r) f =
      let g = part_fits names is_static parts part i t p o f in
      in_init names is_static x part g.0 r g.1

  pub initialises : (names : Env) (is_static : Bool) (ds : List Declarator) → ((d : Declarator) (before : Env) → AmongNames ds names d before → NameFits tags before is_static d) → (x : Expr) (there : Env) → Initialises ds names x there → HasType tags there x
  initialises names is_static ds all x there h =
      same_has x x there (bound h.declarator ∷ h.before) refl h.known
      (in_init (bound h.declarator ∷ h.before) is_static x h.init h.declarator.ctype h.inside
      ((all h.declarator h.before h.among).starts h.init h.is_its))

  -- ---- calls

  wanted_type : (names : Env) (ws : List Want) (es : List Expr) → AllWanted tags names ws es → (x : Expr) → OneOf es x → HasType tags names x
  wanted_type names [] [] h x o = absurd o
  wanted_type names [] (e ∷ es) h x o = absurd h
  wanted_type names (w ∷ ws) [] h x o = absurd h
  wanted_type names (w ∷ ws) (e ∷ es) h x (inl o) = same_has x e names names o refl (Integer h.0.0, h.0.1)
  wanted_type names (w ∷ ws) (e ∷ es) h x (inr o) = wanted_type names ws es h.1 x o

  call_type : (names : Env) (e x : Expr) → CallFits tags names e → OneOf (call_evaluates e (out-Node e.node)) x → HasType tags names x
  call_type names e x (prints format bytes wants arguments p q r s) o =
      wanted_type names wants arguments s x (subst (λ (w : Node-F Node Expr). OneOf (call_evaluates e w) x) p o)
  call_type names e x (puts argument p i) o =
      one_of (subst (λ (w : Node-F Node Expr). OneOf (call_evaluates e w) x) p o)
    where
      one_of : OneOf (argument ∷ []) x → HasType tags names x
      one_of (inl o) = same_has x argument names names o refl (integer_type names argument i)
      one_of (inr o) = absurd o
  call_type names e x (calls name arguments p q r h) o =
      by_name (bytes_eq name (codes "printf")) (bytes_eq name (codes "putchar")) refl refl (subst (λ (w : Node-F Node Expr). OneOf (call_evaluates e w) x) p o)
    where
      by_name : (b c : Bool) → bytes_eq name (codes "printf") ≡ b → bytes_eq name (codes "putchar") ≡ c → OneOf (if b then rest_of arguments else (if c then arguments else e ∷ [])) x → HasType tags names x
      by_name true c f g o = absurd (q (same_word name (codes "printf") f))
      by_name false true f g o = absurd (r (same_word name (codes "putchar") g))
      by_name false false f g (inl o) = same_has x e names names o refl h
      by_name false false f g (inr o) = absurd o

  -- ---- statements

  pub evaluates_type : (result : CType) (y : Act-F Act Stmt) (spot : Spot) → ActFits tags result y spot → (x : Expr) (there : Env) → Evaluates y spot x there → HasType tags there x
  evaluates_type result act.Empty spot f x there h = absurd h
  evaluates_type result (act.Block ss) spot f x there h = absurd h
  evaluates_type result (act.Set None place value) spot f x there (inl p, q) = same_has x place there spot.names p q (f.ctype, f.has_type)
  evaluates_type result (act.Set None place value) spot f x there (inr p, q) = same_has x value there spot.names p q (taken_type spot.names f.ctype value f.takes)
  evaluates_type result (act.Set (Some op) place value) spot f x there (inl p, q) = same_has x place there spot.names p q (integer_type spot.names place f.1)
  evaluates_type result (act.Set (Some op) place value) spot f x there (inr p, q) = same_has x value there spot.names p q (integer_type spot.names value f.2)
  evaluates_type result (act.Bump up prefix place) spot f x there h = same_has x place there spot.names h.0 h.1 (integer_type spot.names place f.1)
  evaluates_type result (act.Call c) spot f x there h = same_has x x there spot.names refl h.1 (call_type spot.names c x f h.0)
  evaluates_type result (act.If c a b) spot f x there h = same_has x c there spot.names h.0 h.1 (integer_type spot.names c f)
  evaluates_type result (act.While c body) spot f x there h = same_has x c there spot.names h.0 h.1 (integer_type spot.names c f)
  evaluates_type result (act.DoWhile body c) spot f x there h = same_has x c there spot.names h.0 h.1 (integer_type spot.names c f)
  evaluates_type result (act.For first test next body) spot f x there h =
      same_has x x there (spot_after_first first spot).names refl h.1 (integer_type (spot_after_first first spot).names x (f.0 x h.0))
  evaluates_type result (act.Return None) spot f x there h = absurd cc
  evaluates_type result (act.Return (Some e)) spot f x there h = same_has x e there spot.names (some_same e x h.0) h.1 (taken_type spot.names result e f)
    where
      some_same : (a b : Expr) → ◌≡◌ {A = Option Expr} (Some a) (Some b) → b ≡ a
      some_same a b e = cc
  evaluates_type result act.Break spot f x there h = absurd h
  evaluates_type result act.Continue spot f x there h = absurd h
  evaluates_type result (act.Declare d) spot f x there h = initialises spot.names d.is_static d.names f x there h
  evaluates_type result (act.Cle p) spot f x there h = absurd h

pub right_type : (inside : Inside) (s : Stmt) (spot : Spot) → RightAt inside s spot → (x : Expr) (there : Env) → Evaluates (out-Act s.node) spot x there → HasType inside.tags there x
right_type inside s spot h x there v = evaluates_type inside.tags inside.result (out-Act s.node) spot (act_fits inside s spot h) x there v
