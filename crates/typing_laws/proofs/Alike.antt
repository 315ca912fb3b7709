-- The meaning gives an expression the type that the rules give it.
use Rattle.std.proofs.Common.{◌≡◌, ℕ, suc, List, [], ◌∷◌, map, refl, sym, ap, ◌∙◌, Bool, true, false, not, ◌&&◌, ◌||◌, Option, Some, None, subst, bytes_eq, codes, if◌then◌else◌, inl, inr, ◌⊎◌}
use Rattle.cl_tree.specs.declared.kinds.IntKind.{IntKind}
use Rattle.cl_tree.specs.declared.kinds.IntKind.TheVariants.{I32}
use Rattle.cl_tree.specs.declared.kinds.UnOp.{UnOp}
use Rattle.cl_tree.specs.declared.kinds.UnOp.TheVariants as unop
use Rattle.cl_tree.specs.declared.kinds.BinOp.{BinOp}
use Rattle.cl_tree.specs.declared.kinds.BinOp.TheVariants as binop
use Rattle.cl_tree.specs.declared.tree.CType.{CType, CType-F, out-CType, map-CType, fold_out-CType}
use Rattle.cl_tree.specs.declared.tree.CType.TheOpen as ctype
use Rattle.cl_tree.specs.declared.tree.CType.TheVariants.{Integer, Struct, Array, outs-Integer, outs-Struct, outs-Array}
use Rattle.cl_tree.specs.declared.tree.Expr.{Expr, Expr-F, roll-Expr, ind-Expr, fold_out-Expr}
use Rattle.cl_tree.specs.declared.tree.Node.{Node, Node-F, out-Node, out-roll-Node, map-Node, fold-Node, fold_out-Node}
use Rattle.cl_tree.specs.declared.tree.Node.TheOpen as node
use Rattle.cl_tree.specs.Arithmetic.{is_shift, promoted, common}
use Rattle.cl_tree.specs.Words.{Word, entry}
use Rattle.cl_mean.specs.Shape.{Shape, integer, struct, array, Members, Structs, struct_known, type_shape, shape_of, kind_in, member_shape, part_in, member_index}
use Rattle.cl_mean.specs.Source.{Binding, Env as Bindings, binding_of, Definition, function_named}
use Rattle.cl_mean.specs.Course.{Computation}
use Rattle.cl_mean.specs.Evaluation.{Spot, Scope, Meaning, kind_of, working_kind, given_kind, binary, unary, cast_to, element_of, of_array, indexed, member_of, member_named, selected, variable_of, call_of, reading, call_named, node_meaning, meaning_of}
use Rattle.cl_typing.specs.Scope.{Field, Entry, variable as a_variable, function, structure, Env, meaning, is_library}
use Rattle.cl_typing.specs.Types as types
use Rattle.cl_typing.specs.Types.{Judged, judged, unary_kind, binary_kind, member_type}
use Rattle.typing_laws.specs.Standing.{ChildOf, whole, in_child}
use Rattle.typing_laws.specs.Typed.{TypeIs, HasType, IsPlace, CallIs, of_function, of_getchar, NodeIs}
use Rattle.typing_laws.specs.Meant.{shapes_of, StructsMatch, NamesMatch, FunctionsMatch, NodeMeant, AllMeant}
use Rattle.typing_laws.proofs.Lists.{word_same}
use Rattle.typing_laws.proofs.Levels.{Each, judgements, judged_is}
use Rattle.typing_laws.proofs.Expressions.{node_is}
use Rattle.typing_laws.specs.Named.{NoLibrary}

-- ---- induction over expressions

abbrev pub Parts : (Expr → Type 0) → Node-F Node Expr → Type 0
Parts P (node.Unary op e) = P e
Parts P (node.Binary op a b) = P a × P b
Parts P (node.Choice c a b) = P c × P a × P b
Parts P (node.Cast t e) = P e
Parts P (node.Call n es) = Each P es
Parts P (node.Index a b) = P a × P b
Parts P (node.Member a n) = P a
Parts P (node.Arrow a n) = P a
Parts P (node.Paren e) = P e
Parts P _ = Unit {0}

each_of : {T : Type 0} (P : T → Type 0) (es : List ((e : T) × P e)) → Each P (map (λ e. e.0) es)
each_of P [] = tt
each_of P (e ∷ es) = (e.1, each_of P es)

parts_of : (P : Expr → Type 0) (Q : Node → Type 0) (y : Node-F ((n : Node) × Q n) ((e : Expr) × P e)) → Parts P (map-Node _ _ Node Expr (λ n. n.0) (λ e. e.0) y)
parts_of P Q (node.Unary op e) = e.1
parts_of P Q (node.Binary op a b) = (a.1, b.1)
parts_of P Q (node.Choice c a b) = (c.1, a.1, b.1)
parts_of P Q (node.Cast t e) = e.1
parts_of P Q (node.Call n es) = each_of P es
parts_of P Q (node.Index a b) = (a.1, b.1)
parts_of P Q (node.Member a n) = a.1
parts_of P Q (node.Arrow a n) = a.1
parts_of P Q (node.Paren e) = e.1
parts_of P Q _ = tt

pub expr_induction : (P : Expr → Type 0) → ((e : Expr) → Parts P (out-Node e.node) → P e) → (e : Expr) → P e
expr_induction P step = ind-Expr (λ n. Parts P (out-Node n)) P
    (λ x y q. subst (Parts P) (sym (out-roll-Node x)) (subst (Parts P) q (parts_of P _ y)))
    (λ x y q. step (roll-Expr x) (subst (λ (n : Node). Parts P (out-Node n)) (ap (λ (r : Expr-F Node Expr). r.node) q) y.node.1))

-- ---- shapes of types

module _ (structs : Structs) where
  shape_is : (t : CType) (x : CType-F CType) → out-CType t ≡ x → shape_of structs t ≡ type_shape structs (map-CType CType Shape (shape_of structs) x)
  unfolding shape_of
  shape_is t x e = fold_out-CType Shape (type_shape structs) t ∙ ap (λ (w : CType-F CType). type_shape structs (map-CType CType Shape (shape_of structs) w)) e

  pub integer_shape : (k : IntKind) → shape_of structs (Integer k) ≡ integer k
  integer_shape k = shape_is (Integer k) (ctype.Integer k) (outs-Integer k)

  pub array_shape : (t : CType) (n : ℕ) → shape_of structs (Array t n) ≡ array (shape_of structs t) n
  array_shape t n = shape_is (Array t n) (ctype.Array t n) (outs-Array t n)

  pub struct_shape : (tag : Word) → shape_of structs (Struct tag) ≡ struct_known (entry structs tag)
  struct_shape tag = shape_is (Struct tag) (ctype.Struct tag) (outs-Struct tag)

  pub known_shape : (tag : Word) (ms : Members) → entry structs tag ≡ Some ms → shape_of structs (Struct tag) ≡ struct ms
  known_shape tag ms e = struct_shape tag ∙ ap struct_known e

  -- the member of a name
  member_chosen : (b : Bool) (f : Field) (fs : List Field) (name : Word) (t : CType) → bytes_eq f.name name ≡ b → (if b then Some f.ctype else member_type name fs) ≡ Some t
      → (member_type name fs ≡ Some t → member_shape (shapes_of structs fs) (member_index (shapes_of structs fs) name) ≡ shape_of structs t)
      → member_shape (shapes_of structs (f ∷ fs)) (if b then 0 else suc (member_index (shapes_of structs fs) name)) ≡ shape_of structs t
  member_chosen true f fs name t e h rest = ap (shape_of structs) (some_type f.ctype t h)
    where
      some_type : (u v : CType) → ◌≡◌ {A = Option CType} (Some u) (Some v) → u ≡ v
      some_type u v q = cc
  member_chosen false f fs name t e h rest = rest h

  pub member_found : (fs : List Field) (name : Word) (t : CType) → member_type name fs ≡ Some t → member_shape (shapes_of structs fs) (member_index (shapes_of structs fs) name) ≡ shape_of structs t
  unfolding member_type
  member_found [] name t h = absurd cc
  member_found (f ∷ fs) name t h = member_chosen (bytes_eq f.name name) f fs name t refl h (member_found fs name t)

-- ---- kinds

pub binary_same : (op : BinOp) (a b : IntKind) → given_kind op (working_kind op a b) ≡ binary_kind op a b
unfolding given_kind working_kind binary_kind is_shift
binary_same binop.Or a b = refl
binary_same binop.And a b = refl
binary_same binop.Equal a b = refl
binary_same binop.Unequal a b = refl
binary_same binop.Less a b = refl
binary_same binop.Greater a b = refl
binary_same binop.AtMost a b = refl
binary_same binop.AtLeast a b = refl
binary_same binop.Left a b = refl
binary_same binop.Right a b = refl
binary_same _ a b = refl

-- ---- what expressions mean

abbrev pub Noding : Type 0
Noding = ℕ → ℕ → Meaning

module _ (scope : Scope) (bindings : Bindings) where
  abbrev pub meant : Node-F Node Expr → Node-F Noding Meaning
  meant = map-Node Node Expr Noding Meaning (fold-Node Noding Meaning (node_meaning scope bindings) (λ e. e.node e.line e.second)) (meaning_of scope bindings)

  pub meaning_is : (e : Expr) → meaning_of scope bindings e ≡ node_meaning scope bindings (meant (out-Node e.node)) e.line e.second
  unfolding meaning_of
  meaning_is e =
      fold_out-Expr Noding Meaning (node_meaning scope bindings) (λ x. x.node x.line x.second) e
      ∙ ap (λ (f : Noding). f e.line e.second) (fold_out-Node Noding Meaning (node_meaning scope bindings) (λ x. x.node x.line x.second) e.node)

abbrev pub HasSpot : Meaning → Type 0
HasSpot m = (s : Computation Spot) × (m.spot ≡ Some s)

module _ (scope : Scope) (bindings : Bindings) (tags names : Env)
    (same_structs : StructsMatch scope.source.structs tags) (same_names : NamesMatch scope.source.structs names bindings)
    (same_functions : FunctionsMatch scope.source.structs names scope.source.functions) (free : NoLibrary names) where
  abbrev pub shaped : CType → Shape
  shaped = shape_of scope.source.structs

  abbrev pub means : Expr → Meaning
  means = meaning_of scope bindings

  abbrev pub Meant : Expr → Type 0
  Meant e = AllMeant bindings scope.source.functions e

  -- the meaning has the type, and a place where the rules say so
  abbrev pub Alike : Expr → Type 0
  Alike e = (t : CType) → TypeIs tags names e t → Meant e → ((means e).shape ≡ shaped t) × (IsPlace tags names e → HasSpot (means e))

  kind_alike : (e : Expr) (k : IntKind) → Alike e → TypeIs tags names e (Integer k) → Meant e → kind_of (means e) ≡ k
  kind_alike e k h i m = ap kind_in ((h (Integer k) i m).0 ∙ integer_shape scope.source.structs k)

  under : (e child : Expr) → ChildOf (out-Node e.node) child → Meant e → Meant child
  under e child c m x i = m x (in_child child c i)

  -- ---- places

  no_place : (x : Option CType) → (types.value_of x).is_place ≡ true → ⊥
  no_place x h = cc

  made_unplaced : (f : IntKind → Option IntKind) (o : Option IntKind) → (types.made_of f o).is_place ≡ true → ⊥
  made_unplaced f None h = cc
  made_unplaced f (Some k) h = cc

  two_unplaced : (f : IntKind → IntKind → IntKind) (o p : Option IntKind) → (types.of_two f o p).is_place ≡ true → ⊥
  two_unplaced f (Some k) (Some l) h = cc
  two_unplaced f (Some k) None h = cc
  two_unplaced f None p h = cc

  three_unplaced : (o p q : Option IntKind) → (types.of_three o p q).is_place ≡ true → ⊥
  three_unplaced (Some j) (Some k) (Some l) h = cc
  three_unplaced (Some j) (Some k) None h = cc
  three_unplaced (Some j) None q h = cc
  three_unplaced None p q h = cc

  cast_unplaced : (t : CType) (o p : Option IntKind) → (types.cast_to t o p).is_place ≡ true → ⊥
  cast_unplaced t (Some k) (Some l) h = cc
  cast_unplaced t (Some k) None h = cc
  cast_unplaced t None p h = cc

  result_unplaced : (b : Bool) (f : Entry) → (if b then types.of_result f else types.value_of None).is_place ≡ true → ⊥
  result_unplaced true (function r ps) h = cc
  result_unplaced true (a_variable t) h = cc
  result_unplaced true (structure ms) h = cc
  result_unplaced false f h = cc

  call_unplaced : (name : Word) (js : List Judged) (o : Option Entry) → (types.of_call name js o).is_place ≡ true → ⊥
  call_unplaced name js (Some f) h = result_unplaced (not (bytes_eq name (codes "main")) && types.arguments_fit (types.params_in (Some f)) js) f h
  call_unplaced name js None h = cc

  index_place : (j : Judged) (o : Option IntKind) → (types.of_index j o).is_place ≡ true → j.is_place ≡ true
  index_place j None h = absurd cc
  index_place j (Some k) h = h

  -- ---- one level

  abbrev pub Step : Node-F Node Expr → Type 0
  Step y = (line second : ℕ) (t : CType) → NodeIs tags names y t → NodeMeant bindings scope.source.functions y → ((child : Expr) → ChildOf y child → Meant child)
      → ((node_meaning scope bindings (meant scope bindings y) line second).shape ≡ shaped t)
      × ((types.node_judged tags names (judgements tags names y)).is_place ≡ true → HasSpot (node_meaning scope bindings (meant scope bindings y) line second))

  variable_alike : (name : Word) (t : CType) (o : Option Binding) (b : Binding) → binding_of bindings name ≡ o → o ≡ Some b → meaning names name ≡ Some (a_variable t) → ((variable_of o).shape ≡ shaped t) × HasSpot (variable_of o)
  variable_alike name t None b p q m = absurd cc
  variable_alike name t (Some c) b p q m = (same_names name t c m p, (_, refl))

  unary_alike : (level : ℕ) (op : UnOp) (line : ℕ) (a : Meaning) (k to : IntKind) → kind_of a ≡ k → unary_kind op k ≡ Some to → (unary level op line a).shape ≡ integer to
  unfolding unary_kind
  unary_alike level unop.Minus line a k to e h = let f : promoted k ≡ to = cc in ap (λ w. integer (promoted w)) e ∙ ap integer f
  unary_alike level unop.Plus line a k to e h = let f : promoted k ≡ to = cc in ap (λ w. integer (promoted w)) e ∙ ap integer f
  unary_alike level unop.Flip line a k to e h = let f : promoted k ≡ to = cc in ap (λ w. integer (promoted w)) e ∙ ap integer f
  unary_alike level unop.Not line a k to e h = let f : I32 ≡ to = cc in ap integer f
  unary_alike level unop.Star line a k to e h = absurd cc
  unary_alike level unop.Amp line a k to e h = absurd cc

  worked_alike : (op : BinOp) (a b k l : IntKind) → a ≡ k → b ≡ l → integer (given_kind op (working_kind op a b)) ≡ integer (binary_kind op k l)
  worked_alike op a b k l e f =
      ap integer (binary_same op a b) ∙ ap (λ w. integer (binary_kind op w b)) e ∙ ap (λ w. integer (binary_kind op k w)) f

  binary_alike : (level : ℕ) (op : BinOp) (line : ℕ) (a b : Meaning) (k l : IntKind) → kind_of a ≡ k → kind_of b ≡ l → (binary level op line a b).shape ≡ integer (binary_kind op k l)
  unfolding binary_kind
  binary_alike level binop.Or line a b k l e f = refl
  binary_alike level binop.And line a b k l e f = refl
  binary_alike level binop.Equal line a b k l e f = worked_alike binop.Equal (kind_of a) (kind_of b) k l e f
  binary_alike level binop.Unequal line a b k l e f = worked_alike binop.Unequal (kind_of a) (kind_of b) k l e f
  binary_alike level binop.Less line a b k l e f = worked_alike binop.Less (kind_of a) (kind_of b) k l e f
  binary_alike level binop.Greater line a b k l e f = worked_alike binop.Greater (kind_of a) (kind_of b) k l e f
  binary_alike level binop.AtMost line a b k l e f = worked_alike binop.AtMost (kind_of a) (kind_of b) k l e f
  binary_alike level binop.AtLeast line a b k l e f = worked_alike binop.AtLeast (kind_of a) (kind_of b) k l e f
  binary_alike level op line a b k l e f = worked_alike op (kind_of a) (kind_of b) k l e f

  element_shape : (level line : ℕ) (a b : Meaning) (s : Option (Computation Spot)) → (element_of level line a b s).shape ≡ part_in a.shape 0
  element_shape level line a b (Some s) = refl
  element_shape level line a b None = refl

  element_spot : (level line : ℕ) (a b : Meaning) (o : Option (Computation Spot)) (s : Computation Spot) → o ≡ Some s → HasSpot (element_of level line a b o)
  element_spot level line a b (Some r) s e = (_, refl)
  element_spot level line a b None s e = absurd cc

  index_alike : (level line : ℕ) (a b : Meaning) (element : Shape) (n : ℕ) → a.shape ≡ array element n → ((indexed level line a b).shape ≡ element) × (HasSpot a → HasSpot (indexed level line a b))
  index_alike level line a b element n e =
      subst (λ w. ((of_array w (element_of level line a b a.spot)).shape ≡ element) × (HasSpot a → HasSpot (of_array w (element_of level line a b a.spot)))) (sym e)
      (element_shape level line a b a.spot ∙ ap (λ w. part_in w 0) e, λ h. element_spot level line a b a.spot h.0 h.1)

  part_shape : (a : Meaning) (i : ℕ) (s : Option (Computation Spot)) → (member_of a i s).shape ≡ part_in a.shape i
  part_shape a i (Some s) = refl
  part_shape a i None = refl

  part_spot : (a : Meaning) (i : ℕ) (o : Option (Computation Spot)) (s : Computation Spot) → o ≡ Some s → HasSpot (member_of a i o)
  part_spot a i (Some r) s e = (_, refl)
  part_spot a i None s e = absurd cc

  member_alike : (a : Meaning) (name : Word) (ms : Members) → a.shape ≡ struct ms → ((selected a name).shape ≡ member_shape ms (member_index ms name)) × (HasSpot a → HasSpot (selected a name))
  member_alike a name ms e =
      subst (λ w. ((member_named w a name).shape ≡ member_shape ms (member_index ms name)) × (HasSpot a → HasSpot (member_named w a name))) (sym e)
      (part_shape a (member_index ms name) a.spot ∙ ap (λ w. part_in w (member_index ms name)) e, λ h. part_spot a (member_index ms name) a.spot h.0 h.1)

  -- ---- calls

  in_library : (a b c : Bool) → c ≡ true → (a || (b || c)) ≡ true
  in_library true b c e = refl
  in_library false true c e = refl
  in_library false false c e = e

  getchar_library : (name : Word) → bytes_eq name (codes "getchar") ≡ true → is_library name ≡ true
  unfolding is_library
  getchar_library name h = in_library (bytes_eq name (codes "printf")) (bytes_eq name (codes "putchar")) (bytes_eq name (codes "getchar")) h

  call_found : (line : ℕ) (name : Word) (ms : List Meaning) (t : CType) (ts : List CType) (o : Option Definition) (d : Definition) → function_named scope.source.functions name ≡ o → o ≡ Some d
      → meaning names name ≡ Some (function t ts) → (call_of scope line ms o).shape ≡ shaped t
  call_found line name ms t ts None d p q m = absurd cc
  call_found line name ms t ts (Some e) d p q m = (same_functions name t ts e m p).0

  -- a function that is known isn't `getchar`
  not_getchar : (name : Word) (t : CType) (ts : List CType) (b : Bool) → meaning names name ≡ Some (function t ts) → bytes_eq name (codes "getchar") ≡ b → b ≡ false
  not_getchar name t ts false m e = refl
  not_getchar name t ts true m e = let n : meaning names name ≡ None = free name (getchar_library name e) in absurd cc

  called_alike : (line : ℕ) (name : Word) (ms : List Meaning) (t : CType) (ts : List CType) (b : Bool) → bytes_eq name (codes "getchar") ≡ b → meaning names name ≡ Some (function t ts)
      → (name ≡ codes "getchar") ⊎ ((d : Definition) × (function_named scope.source.functions name ≡ Some d))
      → (if b then reading scope.here.level ms else call_of scope line ms (function_named scope.source.functions name)).shape ≡ shaped t
  called_alike line name ms t ts true e m k = let f = not_getchar name t ts true m e in absurd cc
  called_alike line name ms t ts false e m (inl k) = let f = word_same name (codes "getchar") k in absurd cc
  called_alike line name ms t ts false e m (inr k) = call_found line name ms t ts (function_named scope.source.functions name) k.0 refl k.1 m

  getchar_alike : (line : ℕ) (name : Word) (ms : List Meaning) (b : Bool) → b ≡ true → ms ≡ [] → (if b then reading scope.here.level ms else call_of scope line ms (function_named scope.source.functions name)).shape ≡ integer I32
  getchar_alike line name ms true e p = ap (λ w. (reading scope.here.level w).shape) p
  getchar_alike line name ms false e p = absurd cc

  call_alike : (line : ℕ) (name : Word) (arguments : List Expr) (t : CType) → CallIs tags names name arguments t
      → (name ≡ codes "getchar") ⊎ ((d : Definition) × (function_named scope.source.functions name ≡ Some d))
      → (call_named scope line name (map means arguments)).shape ≡ shaped t
  call_alike line name arguments t (of_function ts p m a) k = called_alike line name (map means arguments) t ts (bytes_eq name (codes "getchar")) refl m k
  call_alike line name arguments t (of_getchar p m a b) k =
      getchar_alike line name (map means arguments) (bytes_eq name (codes "getchar")) (word_same name (codes "getchar") p) (ap (λ (w : List Expr). map means w) a)
      ∙ sym (ap shaped b ∙ integer_shape scope.source.structs I32)

  -- ---- all forms

  cast_alike : (a : Meaning) (s : Shape) (k : IntKind) → s ≡ integer k → (cast_to s a).shape ≡ s
  cast_alike a s k e = subst (λ w. (cast_to w a).shape ≡ w) (sym e) refl

  of_integer : (t : CType) (k : IntKind) → t ≡ Integer k → shaped t ≡ integer k
  of_integer t k e = ap shaped e ∙ integer_shape scope.source.structs k

  step : (y : Node-F Node Expr) → Parts Alike y → Step y
  step (node.Number n kind) h line second t is m u = (sym (of_integer t kind is), λ p. absurd (no_place (Some (Integer kind)) p))
  step node.Real h line second t is m u = absurd is
  step (node.Letter byte) h line second t is m u = (sym (of_integer t I32 is), λ p. absurd (no_place (Some (Integer I32)) p))
  step (node.Text bytes) h line second t is m u = absurd is
  step (node.Variable name) h line second t is m u =
      let v = variable_alike name t (binding_of bindings name) m.0 refl m.1 is in
      (v.0, λ p. v.1)
  step (node.Unary op e) h line second t is m u = (
    unary_alike scope.here.level op line (means e) is.0 is.1 (kind_alike e is.0 h is.2 (u e refl)) is.3 ∙ sym (of_integer t is.1 is.4),
    λ p. absurd (made_unplaced (unary_kind op) (types.operand (judged tags names e)) p),
  )
  step (node.Binary op a b) h line second t is m u = (
    binary_alike scope.here.level op second (means a) (means b) is.0 is.1 (kind_alike a is.0 h.0 is.2 (u a (inl refl))) (kind_alike b is.1 h.1 is.3 (u b (inr refl)))
        ∙ sym (of_integer t (binary_kind op is.0 is.1) is.4),
    λ p. absurd (two_unplaced (binary_kind op) (types.operand (judged tags names a)) (types.operand (judged tags names b)) p),
  )
  step (node.Choice c a b) h line second t is m u = (
    ap (λ w. integer (common w (kind_of (means b)))) (kind_alike a is.0 h.1 is.3 (u a (inr (inl refl))))
        ∙ ap (λ w. integer (common is.0 w)) (kind_alike b is.1 h.2 is.4 (u b (inr (inr refl))))
        ∙ sym (of_integer t (common is.0 is.1) is.5),
    λ p. absurd (three_unplaced (types.operand (judged tags names c)) (types.operand (judged tags names a)) (types.operand (judged tags names b)) p),
  )
  step (node.Cast to e) h line second t is m u = (
    cast_alike (means e) (shaped to) is.1.0 (ap shaped is.0 ∙ of_integer t is.1.0 is.1.1) ∙ ap shaped is.0,
    λ p. absurd (cast_unplaced to (types.kind_of to) (types.operand (judged tags names e)) p),
  )
  step (node.Call name arguments) h line second t is m u = (
    call_alike line name arguments t is m,
    λ p. absurd (call_unplaced name (map (judged tags names) arguments) (meaning names name) p),
  )
  step (node.Index a i) h line second t is m u =
      let k = h.0 (Array t is.0.0) is.0.1 (u a (inl refl)) in
      let r = index_alike scope.here.level second (means a) (means i) (shaped t) is.0.0 (k.0 ∙ array_shape scope.source.structs t is.0.0) in
      (r.0, λ p. r.1 (k.1 (index_place (judged tags names a) (types.operand (judged tags names i)) p)))
  step (node.Member a name) h line second t is m u =
      let k = h (Struct is.0) is.2 (u a refl) in
      let e = same_structs is.0 is.1 is.3 in
      let r = member_alike (means a) name (shapes_of scope.source.structs is.1) (k.0 ∙ known_shape scope.source.structs is.0 (shapes_of scope.source.structs is.1) e) in
      (r.0 ∙ member_found scope.source.structs is.1 name t is.4, λ p. r.1 (k.1 p))
  step (node.Arrow a name) h line second t is m u = absurd is
  step (node.Paren e) h line second t is m u = h t is (u e refl)

  pub expression_alike : (e : Expr) → Alike e
  expression_alike = expr_induction Alike (λ e h t is m.
      let r = step (out-Node e.node) h e.line e.second t (node_is tags names e t is) (m e whole) (λ child c. under e child c m) in (
        ap (λ (w : Meaning). w.shape) (meaning_is scope bindings e) ∙ r.0,
        λ p. subst HasSpot (sym (meaning_is scope bindings e)) (r.1 (ap (λ (j : Judged). j.is_place) (sym (judged_is tags names e)) ∙ p)),
      ))

  pub shapes_alike : (e : Expr) (t : CType) → TypeIs tags names e t → AllMeant bindings scope.source.functions e → (meaning_of scope bindings e).shape ≡ shape_of scope.source.structs t
  shapes_alike e t is m = (expression_alike e t is m).0

  pub kinds_alike : (e : Expr) (kind : IntKind) → TypeIs tags names e (Integer kind) → AllMeant bindings scope.source.functions e → kind_of (meaning_of scope bindings e) ≡ kind
  kinds_alike e kind is m = kind_alike e kind (expression_alike e) is m

  pub places_alike : (e : Expr) → HasType tags names e → AllMeant bindings scope.source.functions e → IsPlace tags names e → (s : Computation Spot) × ((meaning_of scope bindings e).spot ≡ Some s)
  places_alike e h m p = (expression_alike e h.0 h.1 m).1 p
