-- Expressions: what no rule fails in has a type, and so have its operands.
use Rattle.std.proofs.Common.{◌≡◌, ℕ, List, [], ◌∷◌, map, refl, sym, ap, ◌∙◌, Bool, true, false, not, ◌&&◌, Option, Some, None, option_map, subst, bytes_eq, codes, if◌then◌else◌, inl, inr}
use Rattle.cl_tree.specs.declared.kinds.IntKind.{IntKind}
use Rattle.cl_tree.specs.declared.kinds.IntKind.TheVariants.{I32}
use Rattle.cl_tree.specs.declared.tree.CType.{CType, CType-F, out-CType}
use Rattle.cl_tree.specs.declared.tree.CType.TheOpen as ctype
use Rattle.cl_tree.specs.declared.tree.CType.TheVariants.{Integer, Struct, Array, rolls-Integer, rolls-Struct}
use Rattle.cl_tree.specs.declared.tree.Expr.{Expr}
use Rattle.cl_tree.specs.declared.tree.Node.{Node, Node-F, out-Node}
use Rattle.cl_tree.specs.declared.tree.Node.TheOpen as node
use Rattle.cl_tree.specs.Arithmetic.{common}
use Rattle.cl_tree.specs.Words.{Word}
use Rattle.cl_typing.specs.Scope.{Field, Entry, variable, function, structure, Env, meaning, members_of}
use Rattle.cl_typing.specs.Unknown.{Known, node_unknown, expr_unknown}
use Rattle.cl_typing.specs.Types.{Judged, given, value_of, integer, operand, kind_of, made_of, unary_kind, binary_kind, of_two, of_three, cast_to, of_name, of_result, of_call, of_index, params_in, arguments_fit, argument_fits, is_array, is_of_type, takes, takes_level, takes_type, element_of, member_level, member_of, among_members, member_type, node_judged, judged}
use Rattle.typing_laws.specs.Standing.{OneOf, ChildOf, Inside, whole, in_child}
use Rattle.typing_laws.specs.Typed.{TypeIs, HasType, IsInteger, Takes, an_integer, a_struct, ArgumentFits, an_array, a_value, ArgumentsFit, CallIs, of_function, of_getchar, NodeIs}
use Rattle.typing_laws.proofs.Lists.{none_of, none_each, both, not_false, same_word, word_same}
use Rattle.typing_laws.proofs.Levels.{names_of, unknown_is, judgements, judged_is, is_made}
use Rattle.typing_laws.proofs.TypeForms.{kind_is, element_is, type_same}

-- ---- names

child_step : (known : Known) (env : Env) (y : Node-F Node Expr) (line : ℕ) → node_unknown known env (names_of known env y) line ≡ [] → (x : Expr) → ChildOf y x → expr_unknown known env x ≡ []
child_step known env (node.Number n kind) line e x h = absurd h
child_step known env node.Real line e x h = absurd h
child_step known env (node.Letter byte) line e x h = absurd h
child_step known env (node.Text bytes) line e x h = absurd h
child_step known env (node.Variable name) line e x h = absurd h
child_step known env (node.Unary op a) line e x h = ap (expr_unknown known env) h ∙ e
child_step known env (node.Binary op a b) line e x (inl h) = ap (expr_unknown known env) h ∙ (none_of _ _ e).0
child_step known env (node.Binary op a b) line e x (inr h) = ap (expr_unknown known env) h ∙ (none_of _ _ e).1
child_step known env (node.Choice c a b) line e x (inl h) = ap (expr_unknown known env) h ∙ (none_of _ _ e).0
child_step known env (node.Choice c a b) line e x (inr (inl h)) = ap (expr_unknown known env) h ∙ (none_of _ _ (none_of _ _ e).1).0
child_step known env (node.Choice c a b) line e x (inr (inr h)) = ap (expr_unknown known env) h ∙ (none_of _ _ (none_of _ _ e).1).1
child_step known env (node.Cast t a) line e x h = ap (expr_unknown known env) h ∙ (none_of _ _ e).1
child_step known env (node.Call name arguments) line e x h = none_each (expr_unknown known env) arguments (none_of _ _ e).1 x h
child_step known env (node.Index a i) line e x (inl h) = ap (expr_unknown known env) h ∙ (none_of _ _ e).0
child_step known env (node.Index a i) line e x (inr h) = ap (expr_unknown known env) h ∙ (none_of _ _ e).1
child_step known env (node.Member a name) line e x h = ap (expr_unknown known env) h ∙ e
child_step known env (node.Arrow a name) line e x h = ap (expr_unknown known env) h ∙ e
child_step known env (node.Paren a) line e x h = ap (expr_unknown known env) h ∙ e

pub child_unknown : (known : Known) (env : Env) (e : Expr) → expr_unknown known env e ≡ [] → (x : Expr) → ChildOf (out-Node e.node) x → expr_unknown known env x ≡ []
child_unknown known env e h x c = child_step known env (out-Node e.node) e.line (sym (unknown_is known env e) ∙ h) x c

pub inside_unknown : (known : Known) (env : Env) (x e : Expr) → Inside x e → expr_unknown known env e ≡ [] → expr_unknown known env x ≡ []
inside_unknown known env x e whole h = h
inside_unknown known env x e (in_child child c i) h = inside_unknown known env x child i (child_unknown known env e h child c)

-- ---- tests of types

operand_of : (o : Option CType) (k : IntKind) → given o kind_of ≡ Some k → o ≡ Some (Integer k)
operand_of None k h = absurd cc
operand_of (Some t) k h = ap (λ (u : CType). Some u) (kind_is t k h)

pub operand_is : (j : Judged) (k : IntKind) → operand j ≡ Some k → j.ctype ≡ Some (Integer k)
unfolding operand
operand_is j k h = operand_of j.ctype k h

two_is : (f : IntKind → IntKind → IntKind) (o p : Option IntKind) (t : CType) → (of_two f o p).ctype ≡ Some t → (k : IntKind) × (l : IntKind) × (o ≡ Some k) × (p ≡ Some l) × (t ≡ Integer (f k l))
two_is f (Some k) (Some l) t h = (k, l, refl, refl, cc)
two_is f (Some k) None t h = absurd cc
two_is f None p t h = absurd cc

three_is : (o p q : Option IntKind) (t : CType) → (of_three o p q).ctype ≡ Some t → (j : IntKind) × (k : IntKind) × (l : IntKind) × (o ≡ Some j) × (p ≡ Some k) × (q ≡ Some l) × (t ≡ Integer (common k l))
three_is (Some j) (Some k) (Some l) t h = (j, k, l, refl, refl, refl, cc)
three_is (Some j) (Some k) None t h = absurd cc
three_is (Some j) None q t h = absurd cc
three_is None p q t h = absurd cc

made_is : (f : IntKind → Option IntKind) (o : Option IntKind) (t : CType) → (made_of f o).ctype ≡ Some t → (k : IntKind) × (to : IntKind) × (o ≡ Some k) × (f k ≡ Some to) × (t ≡ Integer to)
made_is f None t h = absurd cc
made_is f (Some k) t h = with_given (f k) refl h
  where
    with_given : (g : Option IntKind) → f k ≡ g → option_map integer g ≡ Some t → (j : IntKind) × (to : IntKind) × (◌≡◌ {A = Option IntKind} (Some k) (Some j)) × (f j ≡ Some to) × (t ≡ Integer to)
    with_given None e g = absurd cc
    with_given (Some to) e g = (k, to, refl, e, cc)

cast_is : (to : CType) (o p : Option IntKind) (t : CType) → (cast_to to o p).ctype ≡ Some t → (k : IntKind) × (l : IntKind) × (o ≡ Some k) × (p ≡ Some l) × (to ≡ t)
cast_is to (Some k) (Some l) t h = (k, l, refl, refl, cc)
cast_is to (Some k) None t h = absurd cc
cast_is to None p t h = absurd cc

name_is : (entry : Option Entry) (t : CType) → (of_name entry).ctype ≡ Some t → entry ≡ Some (variable t)
name_is (Some (variable u)) t h = ap (λ (w : CType). Some (variable w)) (cc)
name_is (Some (function r ps)) t h = absurd cc
name_is (Some (structure ms)) t h = absurd cc
name_is None t h = absurd cc

given_is : {A B : Type 0} (o : Option A) (f : A → Option B) (y : B) → given o f ≡ Some y → (x : A) × (o ≡ Some x) × (f x ≡ Some y)
given_is (Some x) f y h = (x, refl, h)
given_is None f y h = absurd cc

index_is : (j : Judged) (o : Option IntKind) (t : CType) → (of_index j o).ctype ≡ Some t → (k : IntKind) × (u : CType) × (o ≡ Some k) × (j.ctype ≡ Some u) × (element_of u ≡ Some t)
index_is j None t h = absurd cc
index_is j (Some k) t h = let g = given_is j.ctype element_of t h in (k, g.0, refl, g.1, g.2)

among_is : (name : Word) (o : Option (List Field)) (t : CType) → among_members name o ≡ Some t → (ms : List Field) × (o ≡ Some ms) × (member_type name ms ≡ Some t)
among_is name None t h = absurd cc
among_is name (Some ms) t h = (ms, refl, h)

member_made : (tags : Env) (name : Word) (u : CType) (x : CType-F CType) (t : CType) → out-CType u ≡ x → member_level tags name x ≡ Some t → (tag : Word) × (ms : List Field) × (u ≡ Struct tag) × (members_of tags tag ≡ Some ms) × (member_type name ms ≡ Some t)
member_made tags name u (ctype.Struct tag) t e h =
    let g = among_is name (members_of tags tag) t h in
    (tag, g.0, is_made u (ctype.Struct tag) e ∙ rolls-Struct tag, g.1, g.2)
member_made tags name u ctype.Void t e h = absurd cc
member_made tags name u (ctype.Integer k) t e h = absurd cc
member_made tags name u (ctype.Array v n) t e h = absurd cc
member_made tags name u (ctype.Pointer v) t e h = absurd cc
member_made tags name u ctype.Floating t e h = absurd cc

member_is : (tags : Env) (name : Word) (u t : CType) → member_of tags name u ≡ Some t → (tag : Word) × (ms : List Field) × (u ≡ Struct tag) × (members_of tags tag ≡ Some ms) × (member_type name ms ≡ Some t)
unfolding member_of
member_is tags name u t h = member_made tags name u (out-CType u) t refl h

-- ---- what is taken

module _ (tags names : Env) where
  takes_made : (t u : CType) (x y : CType-F CType) (e : Expr) → out-CType t ≡ x → out-CType u ≡ y → takes_level x y ≡ true → TypeIs tags names e u → Takes tags names t e
  takes_made t u (ctype.Integer a) (ctype.Integer b) e p q h is =
      an_integer a b (is_made t (ctype.Integer a) p ∙ rolls-Integer a) (is ∙ ap (λ (w : CType). Some w) (is_made u (ctype.Integer b) q ∙ rolls-Integer b))
  takes_made t u (ctype.Struct a) (ctype.Struct b) e p q h is =
      a_struct a (is_made t (ctype.Struct a) p ∙ rolls-Struct a)
      (is ∙ ap (λ (w : CType). Some w) (is_made u (ctype.Struct b) q ∙ rolls-Struct b ∙ ap Struct (sym (same_word a b h))))
  takes_made t u _ _ e p q h is = absurd cc

  takes_of : (t : CType) (e : Expr) (o : Option CType) → (judged tags names e).ctype ≡ o → takes_type t o ≡ true → Takes tags names t e
  takes_of t e None is h = absurd cc
  takes_of t e (Some u) is h = takes_made t u (out-CType t) (out-CType u) e refl refl h is

  pub takes_is : (t : CType) (e : Expr) → takes t (judged tags names e) ≡ true → Takes tags names t e
  unfolding takes
  takes_is t e h = takes_of t e (judged tags names e).ctype refl h

  of_type_is : (t : CType) (o : Option CType) → is_of_type t o ≡ true → o ≡ Some t
  of_type_is t None h = absurd cc
  of_type_is t (Some u) h = ap (λ (w : CType). Some w) (sym (type_same t u h))

  argument_by : (t : CType) (e : Expr) (b : Bool) → is_array t ≡ b → (if b then ((judged tags names e).is_place && is_of_type t (judged tags names e).ctype) else takes t (judged tags names e)) ≡ true → ArgumentFits tags names t e
  argument_by t e true is h = let p = both _ _ h in an_array is p.0 (of_type_is t (judged tags names e).ctype p.1)
  argument_by t e false is h = a_value is (takes_is t e h)

  argument_is : (t : CType) (e : Expr) → argument_fits t (judged tags names e) ≡ true → ArgumentFits tags names t e
  unfolding argument_fits
  argument_is t e h = argument_by t e (is_array t) refl h

  pub arguments_are : (ts : List CType) (es : List Expr) → arguments_fit ts (map (judged tags names) es) ≡ true → ArgumentsFit tags names ts es
  unfolding arguments_fit
  arguments_are [] [] h = tt
  arguments_are [] (e ∷ es) h = absurd cc
  arguments_are (t ∷ ts) [] h = absurd cc
  arguments_are (t ∷ ts) (e ∷ es) h = let p = both (argument_fits t (judged tags names e)) _ h in (argument_is t e p.0, arguments_are ts es p.1)

-- ---- calls

chosen : (b : Bool) (j : Judged) (t : CType) → (if b then j else value_of None).ctype ≡ Some t → (b ≡ true) × (j.ctype ≡ Some t)
chosen true j t h = (refl, h)
chosen false j t h = absurd cc

chosen_type : (b : Bool) (u t : CType) → (value_of (if b then Some u else None)).ctype ≡ Some t → (b ≡ true) × (t ≡ u)
chosen_type true u t h = (refl, cc)
chosen_type false u t h = absurd cc

result_is : (entry : Entry) (t : CType) → (of_result entry).ctype ≡ Some t → (types : List CType) × (entry ≡ function t types)
result_is (function r ps) t h = (ps, ap (λ (w : CType). function w ps) (cc))
result_is (variable u) t h = absurd cc
result_is (structure ms) t h = absurd cc

module _ (tags names : Env) where
  isnt : (name w : Word) → bytes_eq name w ≡ false → name ≡ w → ⊥
  isnt name w h e = let f : bytes_eq name w ≡ true = word_same name w e in absurd cc

  no_arguments : (es : List Expr) → arguments_fit [] (map (judged tags names) es) ≡ true → es ≡ []
  unfolding arguments_fit
  no_arguments [] h = refl
  no_arguments (e ∷ es) h = absurd cc

  call_is : (name : Word) (es : List Expr) (entry : Option Entry) (t : CType) → meaning names name ≡ entry → (of_call name (map (judged tags names) es) entry).ctype ≡ Some t → CallIs tags names name es t
  call_is name es (Some entry) t is h =
      let c = chosen (not (bytes_eq name (codes "main")) && arguments_fit (params_in (Some entry)) (map (judged tags names) es)) (of_result entry) t h in
      let p = both (not (bytes_eq name (codes "main"))) _ c.0 in
      let r = result_is entry t c.1 in
      of_function r.0 (isnt name (codes "main") (not_false _ p.0)) (is ∙ ap (λ (w : Entry). Some w) r.1)
      (arguments_are tags names r.0 es (subst (λ (w : Entry). arguments_fit (params_in (Some w)) (map (judged tags names) es) ≡ true) r.1 p.1))
  call_is name es None t is h =
      let c = chosen_type (bytes_eq name (codes "getchar") && arguments_fit [] (map (judged tags names) es)) (Integer I32) t h in
      let p = both (bytes_eq name (codes "getchar")) _ c.0 in
      of_getchar (same_word name (codes "getchar") p.0) is (no_arguments es p.1) c.1

  -- ---- one level

  integer_is : (e : Expr) (k : IntKind) → operand (judged tags names e) ≡ Some k → TypeIs tags names e (Integer k)
  integer_is e k h = operand_is (judged tags names e) k h

  node_step : (y : Node-F Node Expr) (t : CType) → (node_judged tags names (judgements tags names y)).ctype ≡ Some t → NodeIs tags names y t
  node_step (node.Number n kind) t h = cc
  node_step node.Real t h = absurd cc
  node_step (node.Letter byte) t h = cc
  node_step (node.Text bytes) t h = absurd cc
  node_step (node.Variable name) t h = name_is (meaning names name) t h
  node_step (node.Unary op e) t h =
      let m = made_is (unary_kind op) (operand (judged tags names e)) t h in
      (m.0, m.1, integer_is e m.0 m.2, m.3, m.4)
  node_step (node.Binary op a b) t h =
      let m = two_is (binary_kind op) (operand (judged tags names a)) (operand (judged tags names b)) t h in
      (m.0, m.1, integer_is a m.0 m.2, integer_is b m.1 m.3, m.4)
  node_step (node.Choice c a b) t h =
      let m = three_is (operand (judged tags names c)) (operand (judged tags names a)) (operand (judged tags names b)) t h in
      (m.1, m.2, (m.0, integer_is c m.0 m.3), integer_is a m.1 m.4, integer_is b m.2 m.5, m.6)
  node_step (node.Cast to e) t h =
      let m = cast_is to (kind_of to) (operand (judged tags names e)) t h in
      (m.4, (m.0, sym m.4 ∙ kind_is to m.0 m.2), (m.1, integer_is e m.1 m.3))
  node_step (node.Call name arguments) t h = call_is name arguments (meaning names name) t refl h
  node_step (node.Index a i) t h =
      let m = index_is (judged tags names a) (operand (judged tags names i)) t h in
      let n = element_is m.1 t m.4 in
      ((n.0, m.3 ∙ ap (λ (w : CType). Some w) n.1), (m.0, integer_is i m.0 m.2))
  node_step (node.Member a name) t h =
      let g = given_is (judged tags names a).ctype (member_of tags name) t h in
      let m = member_is tags name g.0 t g.2 in
      (m.0, m.1, g.1 ∙ ap (λ (w : CType). Some w) m.2, m.3, m.4)
  node_step (node.Arrow a name) t h = absurd cc
  node_step (node.Paren e) t h = h

  pub node_is : (e : Expr) (t : CType) → TypeIs tags names e t → NodeIs tags names (out-Node e.node) t
  node_is e t h = node_step (out-Node e.node) t (sym (ap (λ (j : Judged). j.ctype) (judged_is tags names e)) ∙ h)

  -- ---- operands

  taken_type : (t : CType) (e : Expr) → Takes tags names t e → HasType tags names e
  taken_type t e (an_integer k l p q) = (Integer l, q)
  taken_type t e (a_struct tag p q) = (Struct tag, q)

  argument_type : (t : CType) (e : Expr) → ArgumentFits tags names t e → HasType tags names e
  argument_type t e (an_array p q r) = (t, r)
  argument_type t e (a_value p q) = taken_type t e q

  same_has : (x e : Expr) → x ≡ e → HasType tags names e → HasType tags names x
  same_has x e p h = subst (λ (w : Expr). HasType tags names w) (sym p) h

  arguments_type : (ts : List CType) (es : List Expr) → ArgumentsFit tags names ts es → (x : Expr) → OneOf es x → HasType tags names x
  arguments_type [] [] h x o = absurd o
  arguments_type [] (e ∷ es) h x o = absurd h
  arguments_type (t ∷ ts) [] h x o = absurd h
  arguments_type (t ∷ ts) (e ∷ es) h x (inl o) = same_has x e o (argument_type t e h.0)
  arguments_type (t ∷ ts) (e ∷ es) h x (inr o) = arguments_type ts es h.1 x o

  call_type : (name : Word) (es : List Expr) (t : CType) → CallIs tags names name es t → (x : Expr) → OneOf es x → HasType tags names x
  call_type name es t (of_function types p q r) x o = arguments_type types es r x o
  call_type name es t (of_getchar p q r s) x o = absurd (subst (λ (w : List Expr). OneOf w x) r o)

  integer_type : (e : Expr) → IsInteger tags names e → HasType tags names e
  integer_type e h = (Integer h.0, h.1)

  child_has : (y : Node-F Node Expr) (t : CType) → NodeIs tags names y t → (x : Expr) → ChildOf y x → HasType tags names x
  child_has (node.Number n kind) t h x o = absurd o
  child_has node.Real t h x o = absurd o
  child_has (node.Letter byte) t h x o = absurd o
  child_has (node.Text bytes) t h x o = absurd o
  child_has (node.Variable name) t h x o = absurd o
  child_has (node.Unary op e) t h x o = same_has x e o (Integer h.0, h.2)
  child_has (node.Binary op a b) t h x (inl o) = same_has x a o (Integer h.0, h.2)
  child_has (node.Binary op a b) t h x (inr o) = same_has x b o (Integer h.1, h.3)
  child_has (node.Choice c a b) t h x (inl o) = same_has x c o (integer_type c h.2)
  child_has (node.Choice c a b) t h x (inr (inl o)) = same_has x a o (Integer h.0, h.3)
  child_has (node.Choice c a b) t h x (inr (inr o)) = same_has x b o (Integer h.1, h.4)
  child_has (node.Cast to e) t h x o = same_has x e o (integer_type e h.2)
  child_has (node.Call name arguments) t h x o = call_type name arguments t h x o
  child_has (node.Index a i) t h x (inl o) = same_has x a o (Array t h.0.0, h.0.1)
  child_has (node.Index a i) t h x (inr o) = same_has x i o (integer_type i h.1)
  child_has (node.Member a name) t h x o = same_has x a o (Struct h.0, h.2)
  child_has (node.Arrow a name) t h x o = absurd h
  child_has (node.Paren e) t h x o = same_has x e o (t, h)

  pub child_type : (e : Expr) → HasType tags names e → (x : Expr) → ChildOf (out-Node e.node) x → HasType tags names x
  child_type e h x o = child_has (out-Node e.node) h.0 (node_is e h.0 h.1) x o

  pub inside_type : (x e : Expr) → Inside x e → HasType tags names e → HasType tags names x
  inside_type x e whole h = h
  inside_type x e (in_child child c i) h = inside_type x child i (child_type e h child c)
