-- Statements: in one in which no rule of types fails, each part is such a one, and each expression has a type that fits.
use Rattle.std.proofs.Common.{◌≡◌, ℕ, ◌≤◌, List, [], ◌∷◌, ◌++◌, map, length, refl, sym, ap, ◌∙◌, Bool, true, false, not, ◌||◌, Option, Some, None, subst, leb-true, bytes_eq, codes, if◌then◌else◌, inl, inr}
use Rattle.std.specs.Prelude.{is_some, nat_le}
use Rattle.cl_tree.specs.declared.kinds.IntKind.{IntKind}
use Rattle.cl_tree.specs.declared.kinds.BinOp.{BinOp}
use Rattle.cl_tree.specs.declared.tree.CType.{CType, CType-F, out-CType}
use Rattle.cl_tree.specs.declared.tree.CType.TheOpen as ctype
use Rattle.cl_tree.specs.declared.tree.CType.TheVariants.{Struct, rolls-Struct, rolls-Array}
use Rattle.cl_tree.specs.declared.tree.Expr.{Expr}
use Rattle.cl_tree.specs.declared.tree.Node.{Node, Node-F, out-Node}
use Rattle.cl_tree.specs.declared.tree.Node.TheOpen as node
use Rattle.cl_tree.specs.declared.tree.Init.{Init, Init-F, out-Init, map-Init}
use Rattle.cl_tree.specs.declared.tree.Init.TheOpen as init
use Rattle.cl_tree.specs.declared.tree.Declarator.{Declarator}
use Rattle.cl_tree.specs.declared.tree.Declaration.{Declaration}
use Rattle.cl_tree.specs.declared.tree.Stmt.{Stmt}
use Rattle.cl_tree.specs.declared.tree.Act.{Act, Act-F, out-Act}
use Rattle.cl_tree.specs.declared.tree.Act.TheOpen as act
use Rattle.cl_tree.specs.Arithmetic.{promoted}
use Rattle.cl_tree.specs.Words.{Word}
use Rattle.cl_typing.specs.declared.format.Want.{Want}
use Rattle.cl_typing.specs.declared.format.Part.TheVariants.{Text}
use Rattle.cl_typing.specs.Rules.{unless}
use Rattle.cl_typing.specs.Scope.{Field, Env, bound, with_names, members_of}
use Rattle.cl_typing.specs.Types.{judged, operand, is_integer, takes, type_takes, is_object_type, is_settled, wants_of, wants_operand, wants_kind, all_wanted, wanted, printf_node, printf_right, putchar_right, call_node, call_right}
use Rattle.cl_typing.specs.Wrong.{Inside, Scoped, in_order, act_wrong, stmt_wrong, test_fits, set_fits, bump_fits, integer_in, names_wrong, name_wrong, may_start, init_fits, init_step, braces_fit, struct_fits, all_fit, members_fit}
use Rattle.typing_laws.specs.Standing.{Spot, looping, act_declares, declares, spot_after, spot_after_first, AmongStmts, PartOf, StandsIn, itself, in_part, AmongNames}
use Rattle.typing_laws.specs.Typed.{IsInteger, IsPlace, InitFits, by_value, of_array, of_struct, ElementsFit, no_element, and_element, MembersFit, no_member, and_member, NameFits, AllWanted, CallFits, prints, puts, calls, Stores, ActFits}
use Rattle.typing_laws.proofs.Lists.{none_of, holds, both, not_false, same_word, word_same, some_of}
use Rattle.typing_laws.proofs.Levels.{wrong_parts, stmt_wrong_is, Fitting, init_fits_is, Each, InitParts, init_induction, is_made}
use Rattle.typing_laws.proofs.TypeForms.{void_is}
use Rattle.typing_laws.proofs.Expressions.{operand_is, takes_is}

module _ (tags names : Env) where
  pub integer_of : (e : Expr) → is_integer (judged tags names e) ≡ true → IsInteger tags names e
  unfolding is_integer
  integer_of e h = let k = some_of (operand (judged tags names e)) h in (k.0, operand_is (judged tags names e) k.0 k.1)

  -- ---- stores

  store_of : (place value : Expr) (o : Option CType) → (judged tags names place).ctype ≡ o → (judged tags names place).is_place ≡ true → type_takes o (judged tags names value) ≡ true → Stores tags names place value
  store_of place value None is p h = absurd cc
  store_of place value (Some t) is p h = record { ctype = t; is_place = p; has_type = is; takes = takes_is tags names t value h }

  set_none : (place value : Expr) → set_fits None (judged tags names place) (judged tags names value) ≡ true → Stores tags names place value
  set_none place value h = let p = both _ _ h in store_of place value (judged tags names place).ctype refl p.0 p.1

  set_some : (op : BinOp) (place value : Expr) → set_fits (Some op) (judged tags names place) (judged tags names value) ≡ true → IsPlace tags names place × IsInteger tags names place × IsInteger tags names value
  set_some op place value h =
      let p = both _ _ h in
      let q = both (is_integer (judged tags names place)) _ p.1 in
      (p.0, integer_of place q.0, integer_of value q.1)

  bump_of : (place : Expr) → bump_fits (judged tags names place) ≡ true → IsPlace tags names place × IsInteger tags names place
  bump_of place h = let p = both _ _ h in (p.0, integer_of place p.1)

  -- ---- calls

  wants_one : (w : Want) (o : Option IntKind) → wants_operand w o ≡ true → (k : IntKind) × (o ≡ Some k) × (wants_kind w (promoted k) ≡ true)
  unfolding wants_operand
  wants_one w None h = absurd cc
  wants_one w (Some k) h = (k, refl, h)

  wants_all : (ws : List Want) (es : List Expr) → all_wanted ws (map (judged tags names) es) ≡ true → AllWanted tags names ws es
  unfolding all_wanted
  wants_all [] [] h = tt
  wants_all [] (e ∷ es) h = absurd cc
  wants_all (w ∷ ws) [] h = absurd cc
  wants_all (w ∷ ws) (e ∷ es) h =
      let p = both (wants_operand w (operand (judged tags names e))) _ h in
      let k = wants_one w (operand (judged tags names e)) p.0 in
      ((k.0, operand_is (judged tags names e) k.0 k.1, k.2), wants_all ws es p.1)

  wants_some : (o : Option (List Want)) (es : List Expr) → wanted o (map (judged tags names) es) ≡ true → (ws : List Want) × (o ≡ Some ws) × AllWanted tags names ws es
  unfolding wanted
  wants_some None es h = absurd cc
  wants_some (Some ws) es h = (ws, refl, wants_all ws es h)

  format_is : (y : Node-F Node Expr) (es : List Expr) → printf_node y (map (judged tags names) es) ≡ true → (bytes : List ℕ) × (y ≡ node.Text bytes) × (wanted (wants_of Text bytes) (map (judged tags names) es) ≡ true)
  format_is (node.Text bytes) es h = (bytes, refl, h)
  format_is _ es h = absurd cc

  printf_is : (e : Expr) (arguments : List Expr) → out-Node e.node ≡ node.Call (codes "printf") arguments → printf_right tags names arguments ≡ true → CallFits tags names e
  printf_is e [] p h = absurd cc
  printf_is e (f ∷ es) p h =
      let t = format_is (out-Node f.node) es h in
      let w = wants_some (wants_of Text t.0) es t.2 in
      prints f t.0 w.0 es p t.1 w.1 w.2

  putchar_is : (e : Expr) (arguments : List Expr) → out-Node e.node ≡ node.Call (codes "putchar") arguments → putchar_right (map (judged tags names) arguments) ≡ true → CallFits tags names e
  putchar_is e [] p h = absurd cc
  putchar_is e (f ∷ []) p h = puts f p (integer_of f h)
  putchar_is e (f ∷ (g ∷ es)) p h = absurd cc

  isnt : (name w : Word) → bytes_eq name w ≡ false → name ≡ w → ⊥
  isnt name w h e = let f : bytes_eq name w ≡ true = word_same name w e in absurd cc

  called : List Expr → Word → Node-F Node Expr
  called arguments name = node.Call name arguments

  call_by : (e : Expr) (name : Word) (arguments : List Expr) (b c : Bool) → out-Node e.node ≡ node.Call name arguments → bytes_eq name (codes "printf") ≡ b → bytes_eq name (codes "putchar") ≡ c
      → (if b then printf_right tags names arguments else (if c then putchar_right (map (judged tags names) arguments) else is_some (judged tags names e).ctype)) ≡ true → CallFits tags names e
  unfolding called
  call_by e name arguments true c p q r h =
      printf_is e arguments (p ∙ ap (called arguments) (same_word name (codes "printf") q)) h
  call_by e name arguments false true p q r h =
      putchar_is e arguments (p ∙ ap (called arguments) (same_word name (codes "putchar") r)) h
  call_by e name arguments false false p q r h = calls name arguments p (isnt name (codes "printf") q) (isnt name (codes "putchar") r) (some_of (judged tags names e).ctype h)

  call_is : (e : Expr) (y : Node-F Node Expr) → out-Node e.node ≡ y → call_node tags names (is_some (judged tags names e).ctype) y ≡ true → CallFits tags names e
  call_is e (node.Call name arguments) p h = call_by e name arguments (bytes_eq name (codes "printf")) (bytes_eq name (codes "putchar")) p refl refl h
  call_is e _ p h = absurd cc

  pub call_fits : (e : Expr) → call_right tags names e ≡ true → CallFits tags names e
  unfolding call_right
  call_fits e h = call_is e (out-Node e.node) refl h

-- ---- initialisers

at_most : (n m : ℕ) → nat_le n m ≡ true → n ≤ m
at_most n m h = leb-true n m h

implied : (is_static b : Bool) → (not is_static || b) ≡ true → is_static ≡ true → b ≡ true
implied true b h p = h
implied false b h p = absurd cc

module _ (tags names : Env) (is_static : Bool) where
  abbrev pub Started : Init → Type 0
  Started i = (t : CType) → init_fits tags names is_static i t ≡ true → InitFits tags names is_static i t

  elements : (t : CType) (parts : List Init) → Each Started parts → all_fit t (map (init_fits tags names is_static) parts) ≡ true → ElementsFit tags names is_static t parts
  unfolding all_fit
  elements t [] s h = no_element
  elements t (i ∷ parts) s h =
      let p = both (init_fits tags names is_static i t) _ h in
      and_element (s.0 t p.0) (elements t parts s.1 p.1)

  members : (ms : List Field) (parts : List Init) → Each Started parts → members_fit ms (map (init_fits tags names is_static) parts) ≡ true → MembersFit tags names is_static ms parts
  unfolding members_fit
  members [] [] s h = no_member
  members (m ∷ ms) [] s h = no_member
  members [] (i ∷ parts) s h = absurd cc
  members (m ∷ ms) (i ∷ parts) s h =
      let p = both (init_fits tags names is_static i m.ctype) _ h in
      and_member (s.0 m.ctype p.0) (members ms parts s.1 p.1)

  struct_of : (i : Init) (parts : List Init) (t : CType) (tag : Word) (o : Option (List Field)) → out-Init i ≡ init.Many parts → t ≡ Struct tag → members_of tags tag ≡ o → Each Started parts
      → struct_fits o (map (init_fits tags names is_static) parts) ≡ true → InitFits tags names is_static i t
  struct_of i parts t tag None p q r s h = absurd cc
  struct_of i parts t tag (Some ms) p q r s h = of_struct parts tag ms p q r (members ms parts s h)

  length_map : (parts : List Init) → length (map (init_fits tags names is_static) parts) ≡ length parts
  length_map [] = refl
  length_map (i ∷ parts) = ap (λ n. ℕ.suc n) (length_map parts)

  braces_of : (i : Init) (parts : List Init) (t : CType) (x : CType-F CType) → out-Init i ≡ init.Many parts → out-CType t ≡ x → Each Started parts → braces_fit tags x (map (init_fits tags names is_static) parts) ≡ true → InitFits tags names is_static i t
  braces_of i parts t (ctype.Array u n) p q s h =
      let b = both (nat_le (length (map (init_fits tags names is_static) parts)) n) _ h in
      of_array parts u n p (is_made t (ctype.Array u n) q ∙ rolls-Array u n)
      (at_most (length parts) n (subst (λ m. nat_le m n ≡ true) (length_map parts) b.0)) (elements u parts s b.1)
  braces_of i parts t (ctype.Struct tag) p q s h = struct_of i parts t tag (members_of tags tag) p (is_made t (ctype.Struct tag) q ∙ rolls-Struct tag) refl s h
  braces_of i parts t _ p q s h = absurd cc

  init_by : (i : Init) (y : Init-F Init) (t : CType) → out-Init i ≡ y → InitParts Started y → init_step tags names is_static (map-Init Init Fitting (init_fits tags names is_static) y) t ≡ true → InitFits tags names is_static i t
  init_by i (init.One e) t p s h =
      let b = both (takes t (judged tags names e)) _ h in
      by_value e p (takes_is tags names t e b.0) (implied is_static (is_settled e) b.1)
  init_by i (init.Many parts) t p s h = braces_of i parts t (out-CType t) p refl s h

  pub init_is : (i : Init) → Started i
  init_is = init_induction Started (λ i s t h. init_by i (out-Init i) t refl s (ap (λ (f : Fitting). f t) (sym (init_fits_is tags names is_static i)) ∙ h))

  start_of : (o : Option Init) (t : CType) → may_start tags names is_static t o ≡ true → (i : Init) → o ≡ Some i → InitFits tags names is_static i t
  start_of None t h i p = absurd cc
  start_of (Some j) t h i p =
      let e : j ≡ i = cc in
      subst (λ (w : Init). InitFits tags names is_static w t) e (init_is j t h)

-- ---- declarations

module _ (tags : Env) (is_static : Bool) where
  name_of : (d : Declarator) (names : Env) → name_wrong tags names is_static d ≡ [] → NameFits tags names is_static d
  name_of d names h =
      let p = both (is_object_type d.ctype) _ (holds _ d.second h) in
      record { object = p.0; starts = start_of tags (bound d ∷ names) is_static d.init d.ctype p.1 }

  pub names_of : (ds : List Declarator) (names : Env) → names_wrong tags names is_static ds ≡ [] → (d : Declarator) (before : Env) → AmongNames ds names d before → NameFits tags before is_static d
  unfolding names_wrong
  names_of [] names e d before h = absurd h
  names_of (c ∷ ds) names e d before (inl h) =
      subst (λ (w : Declarator). NameFits tags before is_static w) (sym h.0)
      (subst (λ (w : Env). NameFits tags w is_static c) (sym h.1) (name_of c names (none_of _ _ e).0))
  names_of (c ∷ ds) names e d before (inr h) = names_of ds (bound c ∷ names) (none_of (name_wrong tags names is_static c) _ e).1 d before h

-- ---- statements

module _ (inside : Inside) where
  act_names : (y : Act-F Act Stmt) (line : ℕ) → (act_wrong inside (wrong_parts inside y) line).declares ≡ act_declares y
  act_names act.Empty line = refl
  act_names (act.Block ss) line = refl
  act_names (act.Set op place value) line = refl
  act_names (act.Bump up prefix place) line = refl
  act_names (act.Call e) line = refl
  act_names (act.If c a None) line = refl
  act_names (act.If c a (Some b)) line = refl
  act_names (act.While c body) line = refl
  act_names (act.DoWhile body c) line = refl
  act_names (act.For None test None body) line = refl
  act_names (act.For None test (Some n) body) line = refl
  act_names (act.For (Some f) test None body) line = refl
  act_names (act.For (Some f) test (Some n) body) line = refl
  act_names (act.Return e) line = refl
  act_names act.Break line = refl
  act_names act.Continue line = refl
  act_names (act.Declare d) line = refl
  act_names (act.Cle p) line = refl

  pub right_names : (s : Stmt) → (stmt_wrong inside s).declares ≡ declares s
  right_names s = ap (λ (w : Scoped). w.declares) (stmt_wrong_is inside s) ∙ act_names (out-Act s.node) s.line

  -- no rule of types fails in the statement, where it stands at this spot
  abbrev pub RightAt : Stmt → Spot → Type 0
  RightAt s spot = (stmt_wrong inside s).places spot.names spot.in_loop ≡ []

  after_names : (s : Stmt) (names : Env) → with_names (stmt_wrong inside s).declares names ≡ with_names (declares s) names
  after_names s names = ap (λ (ds : List Declarator). with_names ds names) (right_names s)

  some_same : (a b : Stmt) → ◌≡◌ {A = Option Stmt} (Some a) (Some b) → b ≡ a
  some_same a b e = cc

  moved : (a s : Stmt) (spot there : Spot) → s ≡ a → there ≡ spot → RightAt a spot → RightAt s there
  moved a s spot there e f h = subst (λ (w : Stmt). RightAt w there) (sym e) (subst (λ (w : Spot). RightAt a w) (sym f) h)

  pub among_right : (ss : List Stmt) (spot : Spot) → in_order (map (stmt_wrong inside) ss) spot.names spot.in_loop ≡ [] → (s : Stmt) (there : Spot) → AmongStmts ss spot s there → RightAt s there
  unfolding in_order
  among_right [] spot e s there h = absurd h
  among_right (t ∷ ss) spot e s there (inl h) = moved t s spot there h.0 h.1 (none_of _ _ e).0
  among_right (t ∷ ss) spot e s there (inr h) =
      among_right ss (spot_after t spot)
      (ap (λ (w : Env). in_order (map (stmt_wrong inside) ss) w spot.in_loop) (sym (after_names t spot.names)) ∙ (none_of ((stmt_wrong inside t).places spot.names spot.in_loop) _ e).1)
      s there h

  -- a part behind the first part of the head of a `for`
  behind_first : (f a : Stmt) (names : Env) (loops : Bool) → (stmt_wrong inside a).places (with_names (stmt_wrong inside f).declares names) loops ≡ [] → (stmt_wrong inside a).places (with_names (declares f) names) loops ≡ []
  behind_first f a names loops h = subst (λ (w : Env). (stmt_wrong inside a).places w loops ≡ []) (after_names f names) h

  part_step : (y : Act-F Act Stmt) (line : ℕ) (spot : Spot) → (act_wrong inside (wrong_parts inside y) line).places spot.names spot.in_loop ≡ [] → (s : Stmt) (there : Spot) → PartOf y spot s there → RightAt s there
  part_step act.Empty line spot e s there h = absurd h
  part_step (act.Block ss) line spot e s there h = among_right ss spot e s there h
  part_step (act.Set op place value) line spot e s there h = absurd h
  part_step (act.Bump up prefix place) line spot e s there h = absurd h
  part_step (act.Call x) line spot e s there h = absurd h
  part_step (act.If c a None) line spot e s there (inl p, q) = moved a s spot there p q (none_of _ _ (none_of (unless (integer_in inside spot.names c) line) _ e).1).0
  part_step (act.If c a None) line spot e s there (inr p, q) = absurd cc
  part_step (act.If c a (Some b)) line spot e s there (inl p, q) = moved a s spot there p q (none_of _ _ (none_of (unless (integer_in inside spot.names c) line) _ e).1).0
  part_step (act.If c a (Some b)) line spot e s there (inr p, q) = moved b s spot there (some_same b s p) q (none_of ((stmt_wrong inside a).places spot.names spot.in_loop) _ (none_of (unless (integer_in inside spot.names c) line) _ e).1).1
  part_step (act.While c body) line spot e s there h = moved body s (looping spot) there h.0 h.1 (none_of (unless (integer_in inside spot.names c) line) _ e).1
  part_step (act.DoWhile body c) line spot e s there h = moved body s (looping spot) there h.0 h.1 (none_of (unless (integer_in inside spot.names c) line) _ e).1
  part_step (act.For None test None body) line spot e s there (inl h) = absurd cc
  part_step (act.For None test None body) line spot e s there (inr (inl h)) = absurd cc
  part_step (act.For None test None body) line spot e s there (inr (inr h)) = moved body s (looping spot) there h.0 h.1 (none_of (unless (test_fits inside spot.names test) line) _ e).1
  part_step (act.For None test (Some n) body) line spot e s there (inl h) = absurd cc
  part_step (act.For None test (Some n) body) line spot e s there (inr (inl h)) = moved n s spot there (some_same n s h.0) h.1 (none_of _ _ (none_of (unless (test_fits inside spot.names test) line) _ e).1).0
  part_step (act.For None test (Some n) body) line spot e s there (inr (inr h)) =
      moved body s (looping spot) there h.0 h.1 (none_of ((stmt_wrong inside n).places spot.names spot.in_loop) _ (none_of (unless (test_fits inside spot.names test) line) _ e).1).1
  part_step (act.For (Some f) test None body) line spot e s there (inl h) =
      moved f s spot there (some_same f s h.0) h.1 (none_of (stmt_wrong inside f).as_head _ (none_of _ _ (none_of (unless (test_fits inside (with_names (stmt_wrong inside f).declares spot.names) test) line) _ e).1).0).1
  part_step (act.For (Some f) test None body) line spot e s there (inr (inl h)) = absurd cc
  part_step (act.For (Some f) test None body) line spot e s there (inr (inr h)) =
      moved body s (looping (spot_after f spot)) there h.0 h.1
      (behind_first f body spot.names true (none_of ((stmt_wrong inside f).as_head ++ (stmt_wrong inside f).places spot.names spot.in_loop) _ (none_of (unless (test_fits inside (with_names (stmt_wrong inside f).declares spot.names) test) line) _ e).1).1)
  part_step (act.For (Some f) test (Some n) body) line spot e s there (inl h) =
      moved f s spot there (some_same f s h.0) h.1 (none_of (stmt_wrong inside f).as_head _ (none_of _ _ (none_of (unless (test_fits inside (with_names (stmt_wrong inside f).declares spot.names) test) line) _ e).1).0).1
  part_step (act.For (Some f) test (Some n) body) line spot e s there (inr (inl h)) =
      moved n s (spot_after f spot) there (some_same n s h.0) h.1
      (behind_first f n spot.names spot.in_loop (none_of _ _ (none_of ((stmt_wrong inside f).as_head ++ (stmt_wrong inside f).places spot.names spot.in_loop) _ (none_of (unless (test_fits inside (with_names (stmt_wrong inside f).declares spot.names) test) line) _ e).1).1).0)
  part_step (act.For (Some f) test (Some n) body) line spot e s there (inr (inr h)) =
      moved body s (looping (spot_after f spot)) there h.0 h.1
      (behind_first f body spot.names true (none_of ((stmt_wrong inside n).places (with_names (stmt_wrong inside f).declares spot.names) spot.in_loop) _ (none_of ((stmt_wrong inside f).as_head ++ (stmt_wrong inside f).places spot.names spot.in_loop) _ (none_of (unless (test_fits inside (with_names (stmt_wrong inside f).declares spot.names) test) line) _ e).1).1).1)
  part_step (act.Return x) line spot e s there h = absurd h
  part_step act.Break line spot e s there h = absurd h
  part_step act.Continue line spot e s there h = absurd h
  part_step (act.Declare d) line spot e s there h = absurd h
  part_step (act.Cle p) line spot e s there h = absurd h

  level : (s : Stmt) (spot : Spot) → RightAt s spot → (act_wrong inside (wrong_parts inside (out-Act s.node)) s.line).places spot.names spot.in_loop ≡ []
  level s spot h = ap (λ (w : Scoped). w.places spot.names spot.in_loop) (sym (stmt_wrong_is inside s)) ∙ h

  pub part_right : (t : Stmt) (spot : Spot) → RightAt t spot → (s : Stmt) (there : Spot) → PartOf (out-Act t.node) spot s there → RightAt s there
  part_right t spot h s there p = part_step (out-Act t.node) t.line spot (level t spot h) s there p

  pub stands_right : (s : Stmt) (there : Spot) (t : Stmt) (spot : Spot) → StandsIn s there t spot → RightAt t spot → RightAt s there
  stands_right s there t spot itself h = h
  stands_right s there t spot (in_part part inner p i) h = stands_right s there part inner i (part_right t spot h part inner p)

  -- ---- what its expressions are

  test_of : (first : Option Stmt) (test : Option Expr) (next : Option Stmt) (body : Stmt) (line : ℕ) (spot : Spot) → (act_wrong inside (wrong_parts inside (act.For first test next body)) line).places spot.names spot.in_loop ≡ []
      → test_fits inside (spot_after_first first spot).names test ≡ true
  test_of None test None body line spot e = holds _ line (none_of _ _ e).0
  test_of None test (Some n) body line spot e = holds _ line (none_of _ _ e).0
  test_of (Some f) test None body line spot e = subst (λ (w : Env). test_fits inside w test ≡ true) (after_names f spot.names) (holds _ line (none_of _ _ e).0)
  test_of (Some f) test (Some n) body line spot e = subst (λ (w : Env). test_fits inside w test ≡ true) (after_names f spot.names) (holds _ line (none_of _ _ e).0)

  some_test : (names : Env) (test : Option Expr) → test_fits inside names test ≡ true → (c : Expr) → test ≡ Some c → IsInteger inside.tags names c
  some_test names None h c p = absurd cc
  some_test names (Some d) h c p =
      let e : d ≡ c = cc in
      subst (λ (w : Expr). IsInteger inside.tags names w) e (integer_of inside.tags names d h)

  not_static : (f : Stmt) (d : Declaration) (y : Act-F Act Stmt) → out-Act f.node ≡ y → y ≡ act.Declare d → (stmt_wrong inside f).as_head ≡ [] → d.is_static ≡ false
  not_static f d y p q h =
      not_false d.is_static (holds _ f.line
      (ap (λ (w : Act-F Act Stmt). (act_wrong inside (wrong_parts inside w) f.line).as_head) (sym (p ∙ q)) ∙ ap (λ (w : Scoped). w.as_head) (sym (stmt_wrong_is inside f)) ∙ h))

  head_by : (f : Stmt) (g : Stmt) (d : Declaration) → ◌≡◌ {A = Option Stmt} (Some f) (Some g) → out-Act g.node ≡ act.Declare d → (stmt_wrong inside f).as_head ≡ [] → d.is_static ≡ false
  head_by f g d p q h = not_static g d (out-Act g.node) refl q (subst (λ (w : Stmt). (stmt_wrong inside w).as_head ≡ []) (sym (some_same f g p)) h)

  head_of : (first : Option Stmt) (test : Option Expr) (next : Option Stmt) (body : Stmt) (line : ℕ) (spot : Spot) → (act_wrong inside (wrong_parts inside (act.For first test next body)) line).places spot.names spot.in_loop ≡ []
      → (g : Stmt) (d : Declaration) → first ≡ Some g → out-Act g.node ≡ act.Declare d → d.is_static ≡ false
  head_of None test next body line spot e g d p q = absurd cc
  head_of (Some f) test None body line spot e g d p q =
      head_by f g d p q (none_of (stmt_wrong inside f).as_head _ (none_of _ _ (none_of (unless (test_fits inside (with_names (stmt_wrong inside f).declares spot.names) test) line) _ e).1).0).0
  head_of (Some f) test (Some n) body line spot e g d p q =
      head_by f g d p q (none_of (stmt_wrong inside f).as_head _ (none_of _ _ (none_of (unless (test_fits inside (with_names (stmt_wrong inside f).declares spot.names) test) line) _ e).1).0).0

  fits_step : (y : Act-F Act Stmt) (line : ℕ) (spot : Spot) → (act_wrong inside (wrong_parts inside y) line).places spot.names spot.in_loop ≡ [] → ActFits inside.tags inside.result y spot
  fits_step act.Empty line spot e = tt
  fits_step (act.Block ss) line spot e = tt
  fits_step (act.Set None place value) line spot e = set_none inside.tags spot.names place value (holds _ line e)
  fits_step (act.Set (Some op) place value) line spot e = set_some inside.tags spot.names op place value (holds _ line e)
  fits_step (act.Bump up prefix place) line spot e = bump_of inside.tags spot.names place (holds _ line e)
  fits_step (act.Call x) line spot e = call_fits inside.tags spot.names x (holds _ line e)
  fits_step (act.If c a None) line spot e = integer_of inside.tags spot.names c (holds _ line (none_of _ _ e).0)
  fits_step (act.If c a (Some b)) line spot e = integer_of inside.tags spot.names c (holds _ line (none_of _ _ e).0)
  fits_step (act.While c body) line spot e = integer_of inside.tags spot.names c (holds _ line (none_of _ _ e).0)
  fits_step (act.DoWhile body c) line spot e = integer_of inside.tags spot.names c (holds _ line (none_of _ _ e).0)
  fits_step (act.For first test next body) line spot e =
      (some_test (spot_after_first first spot).names test (test_of first test next body line spot e), head_of first test next body line spot e)
  fits_step (act.Return None) line spot e = void_is inside.result (holds _ line e)
  fits_step (act.Return (Some x)) line spot e = takes_is inside.tags spot.names inside.result x (holds _ line e)
  fits_step act.Break line spot e = holds _ line e
  fits_step act.Continue line spot e = holds _ line e
  fits_step (act.Declare d) line spot e = names_of inside.tags d.is_static d.names spot.names e
  fits_step (act.Cle p) line spot e = tt

  pub act_fits : (s : Stmt) (spot : Spot) → RightAt s spot → ActFits inside.tags inside.result (out-Act s.node) spot
  act_fits s spot h = fits_step (out-Act s.node) s.line spot (level s spot h)
