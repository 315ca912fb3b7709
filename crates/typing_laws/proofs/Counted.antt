-- What is counted is within its limit.
use Rattle.std.proofs.Common.{◌≡◌, ℕ, ◌+◌, ◌*◌, ◌≤◌, List, [], ◌∷◌, ◌++◌, map, refl, sym, ap, ◌∙◌, arith, leb-true, Bool, true, false, Option, Some, None, subst, if◌then◌else◌, inl, inr}
use Rattle.std.specs.Prelude.{sum}
use Rattle.std.specs.List.{flat_map}
use Rattle.std.proofs.lemmas.List.Sums.{sum_by-cons}
use Rattle.std.proofs.lemmas.Nat.{mul-le}
use Rattle.cl_tree.specs.declared.tree.CType.{CType, CType-F, out-CType, map-CType, fold_out-CType}
use Rattle.cl_tree.specs.declared.tree.CType.TheVariants.{Array, outs-Array}
use Rattle.cl_tree.specs.declared.tree.Declarator.{Declarator}
use Rattle.cl_tree.specs.declared.tree.Declaration.{Declaration}
use Rattle.cl_tree.specs.declared.tree.Stmt.{Stmt, fold_out-Stmt}
use Rattle.cl_tree.specs.declared.tree.Act.{Act, Act-F, out-Act, map-Act, fold-Act, fold_out-Act}
use Rattle.cl_tree.specs.declared.tree.Act.TheOpen as act
use Rattle.cl_tree.specs.declared.tree.Item.{Item}
use Rattle.cl_tree.specs.declared.tree.Item.TheVariants as item
use Rattle.cl_tree.specs.declared.tree.Program.{Program}
use Rattle.cl_typing.specs.declared.totals.Totals.{Totals}
use Rattle.cl_typing.specs.Rules.{unless}
use Rattle.cl_typing.specs.Scope.{Env}
use Rattle.cl_typing.specs.Sizes.{Size, size_step, size_of, size_of_all, declared_size, act_locals, stmt_locals, Counted, a_function, an_object, objects, declared_objects, act_counted, stmt_counted, body_size, body_counted, in_item, sizes_after, in_items, totals_after, within, line_of, over, no_totals, too_large}
use Rattle.typing_laws.specs.Standing.{OneOf, Spot, AmongStmts, PartOf, StandsIn, itself, in_part, BodyHas, InBody}
use Rattle.typing_laws.specs.Sized.{AmongSized, HasSizes, BodyWithin, body_params}
use Rattle.typing_laws.proofs.Lists.{none_of, holds, both}

-- ---- lists

pub one_left : {A : Type 0} (xs ys : List A) (x : A) → OneOf xs x → OneOf (xs ++ ys) x
one_left [] ys x h = absurd h
one_left (z ∷ xs) ys x (inl h) = inl h
one_left (z ∷ xs) ys x (inr h) = inr (one_left xs ys x h)

pub one_right : {A : Type 0} (xs ys : List A) (x : A) → OneOf ys x → OneOf (xs ++ ys) x
one_right [] ys x h = h
one_right (z ∷ xs) ys x h = inr (one_right xs ys x h)

pub one_in : {A B : Type 0} (f : A → List B) (xs : List A) (x : A) (y : B) → OneOf xs x → OneOf (f x) y → OneOf (flat_map (λ ls. ls) (map f xs)) y
one_in f [] x y h o = absurd h
one_in f (z ∷ xs) x y (inl h) o = one_left (f z) _ y (subst (λ w. OneOf (f w) y) h o)
one_in f (z ∷ xs) x y (inr h) o = one_right (f z) _ y (one_in f xs x y h o)

pub sum_cons : (x : ℕ) (xs : List ℕ) → sum (x ∷ xs) ≡ x + sum xs
sum_cons x xs = sum_by-cons (λ n. n) x xs

pub sum_one : {A : Type 0} (f : A → ℕ) (xs : List A) (x : A) → OneOf xs x → f x ≤ sum (map f xs)
sum_one f [] x h = absurd h
sum_one f (z ∷ xs) x (inl h) =
    let e : f x ≡ f z = ap f h in
    let s : sum (f z ∷ map f xs) ≡ f z + sum (map f xs) = sum_cons (f z) (map f xs) in
    rw s (omega arith)
sum_one f (z ∷ xs) x (inr h) =
    let i : f x ≤ sum (map f xs) = sum_one f xs x h in
    let s : sum (f z ∷ map f xs) ≡ f z + sum (map f xs) = sum_cons (f z) (map f xs) in
    rw s (omega arith)

-- ---- limits

pub over_one : (t : Totals) (cs : List Counted) → over t cs ≡ [] → (c : Counted) → OneOf cs c → (u : Totals) × (within u c ≡ true)
unfolding over
over_one t [] e c h = absurd h
over_one t (d ∷ cs) e c (inl h) = (totals_after t d, ap (λ (w : Counted). within (totals_after t d) w) h ∙ holds _ (line_of d) (none_of _ _ e).0)
over_one t (d ∷ cs) e c (inr h) = over_one (totals_after t d) cs (none_of (unless (within (totals_after t d) d) (line_of d)) _ e).1 c h

object_within : (u : Totals) (line size : ℕ) → within u (an_object line size) ≡ true → size ≤ 65536
object_within u line size h = leb-true size 65536 (both _ _ (both _ _ h).1).0

function_within : (u : Totals) (line size : ℕ) → within u (a_function line size) ≡ true → size ≤ 8192
function_within u line size h = leb-true size 8192 (both _ _ h).1

items_one : (is : List Item) (sizes : List Size) (i : Item) (there : List Size) (c : Counted) → AmongSized is sizes i there → OneOf (in_item there i) c → OneOf (in_items sizes is) c
unfolding in_items
items_one [] sizes i there c h o = absurd h
items_one (j ∷ is) sizes i there c (inl h) o =
    one_left (in_item sizes j) _ c (subst (λ (w : Item). OneOf (in_item sizes w) c) h.0 (subst (λ (w : List Size). OneOf (in_item w i) c) h.1 o))
items_one (j ∷ is) sizes i there c (inr h) o = one_right (in_item sizes j) _ c (items_one is (sizes_after sizes j) i there c h o)

module _ (program : Program) (small : too_large program ≡ []) (i : Item) (sizes : List Size) (has : HasSizes program i sizes) where
  counted_within : (c : Counted) → OneOf (in_item sizes i) c → (u : Totals) × (within u c ≡ true)
  unfolding too_large
  counted_within c o = over_one no_totals (in_items [] program.items) small c (items_one program.items [] i sizes c has o)

  pub object_small : (line size : ℕ) → OneOf (in_item sizes i) (an_object line size) → size ≤ 65536
  object_small line size o = let w = counted_within (an_object line size) o in object_within w.0 line size w.1

  pub function_small : (line size : ℕ) → OneOf (in_item sizes i) (a_function line size) → size ≤ 8192
  function_small line size o = let w = counted_within (a_function line size) o in function_within w.0 line size w.1

-- ---- what is counted in a statement

module _ (sizes : List Size) where
  abbrev pub Counting : Type 0
  Counting = ℕ → List Counted

  abbrev pub counted_parts : Act-F Act Stmt → Act-F Counting (List Counted)
  counted_parts = map-Act Act Stmt Counting (List Counted) (fold-Act Counting (List Counted) (act_counted sizes) (λ s. s.node s.line)) (stmt_counted sizes)

  pub stmt_counted_is : (s : Stmt) → stmt_counted sizes s ≡ act_counted sizes (counted_parts (out-Act s.node)) s.line
  unfolding stmt_counted
  stmt_counted_is s =
      fold_out-Stmt Counting (List Counted) (act_counted sizes) (λ x. x.node x.line) s
      ∙ ap (λ (f : Counting). f s.line) (fold_out-Act Counting (List Counted) (act_counted sizes) (λ x. x.node x.line) s.node)

  abbrev pub local_parts : Act-F Act Stmt → Act-F ℕ ℕ
  local_parts = map-Act Act Stmt ℕ ℕ (fold-Act ℕ ℕ (act_locals sizes) (λ s. s.node)) (stmt_locals sizes)

  pub stmt_locals_is : (s : Stmt) → stmt_locals sizes s ≡ act_locals sizes (local_parts (out-Act s.node))
  unfolding stmt_locals
  stmt_locals_is s =
      fold_out-Stmt ℕ ℕ (act_locals sizes) (λ x. x.node) s
      ∙ fold_out-Act ℕ ℕ (act_locals sizes) (λ x. x.node) s.node

  its : (s a : Stmt) (c : Counted) → s ≡ a → OneOf (stmt_counted sizes s) c → OneOf (stmt_counted sizes a) c
  its s a c p o = subst (λ (w : Stmt). OneOf (stmt_counted sizes w) c) p o

  some_its : (s a : Stmt) (c : Counted) → ◌≡◌ {A = Option Stmt} (Some a) (Some s) → OneOf (stmt_counted sizes s) c → OneOf (stmt_counted sizes a) c
  some_its s a c p o = let e : s ≡ a = cc in its s a c e o

  among_stmt : (ss : List Stmt) (spot : Spot) (s : Stmt) (there : Spot) → AmongStmts ss spot s there → OneOf ss s
  among_stmt [] spot s there h = absurd h
  among_stmt (t ∷ ss) spot s there (inl h) = inl h.0
  among_stmt (t ∷ ss) spot s there (inr h) = inr (among_stmt ss _ s there h)

  part_step : (y : Act-F Act Stmt) (line : ℕ) (spot : Spot) (s : Stmt) (there : Spot) → PartOf y spot s there → (c : Counted) → OneOf (stmt_counted sizes s) c → OneOf (act_counted sizes (counted_parts y) line) c
  part_step act.Empty line spot s there h c o = absurd h
  part_step (act.Block ss) line spot s there h c o = one_in (stmt_counted sizes) ss s c (among_stmt ss spot s there h) o
  part_step (act.Set op place value) line spot s there h c o = absurd h
  part_step (act.Bump up prefix place) line spot s there h c o = absurd h
  part_step (act.Call x) line spot s there h c o = absurd h
  part_step (act.If x a None) line spot s there (inl p, q) c o = one_left (stmt_counted sizes a) _ c (its s a c p o)
  part_step (act.If x a None) line spot s there (inr p, q) c o = absurd cc
  part_step (act.If x a (Some b)) line spot s there (inl p, q) c o = one_left (stmt_counted sizes a) _ c (its s a c p o)
  part_step (act.If x a (Some b)) line spot s there (inr p, q) c o = one_right (stmt_counted sizes a) _ c (some_its s b c p o)
  part_step (act.While x body) line spot s there h c o = its s body c h.0 o
  part_step (act.DoWhile body x) line spot s there h c o = its s body c h.0 o
  part_step (act.For None test None body) line spot s there (inl h) c o = absurd cc
  part_step (act.For None test None body) line spot s there (inr (inl h)) c o = absurd cc
  part_step (act.For None test None body) line spot s there (inr (inr h)) c o = its s body c h.0 o
  part_step (act.For None test (Some n) body) line spot s there (inl h) c o = absurd cc
  part_step (act.For None test (Some n) body) line spot s there (inr (inl h)) c o = one_left (stmt_counted sizes n) _ c (some_its s n c h.0 o)
  part_step (act.For None test (Some n) body) line spot s there (inr (inr h)) c o = one_right (stmt_counted sizes n) _ c (its s body c h.0 o)
  part_step (act.For (Some f) test None body) line spot s there (inl h) c o = one_left (stmt_counted sizes f) _ c (some_its s f c h.0 o)
  part_step (act.For (Some f) test None body) line spot s there (inr (inl h)) c o = absurd cc
  part_step (act.For (Some f) test None body) line spot s there (inr (inr h)) c o = one_right (stmt_counted sizes f) _ c (its s body c h.0 o)
  part_step (act.For (Some f) test (Some n) body) line spot s there (inl h) c o = one_left (stmt_counted sizes f) _ c (some_its s f c h.0 o)
  part_step (act.For (Some f) test (Some n) body) line spot s there (inr (inl h)) c o = one_right (stmt_counted sizes f) _ c (one_left (stmt_counted sizes n) _ c (some_its s n c h.0 o))
  part_step (act.For (Some f) test (Some n) body) line spot s there (inr (inr h)) c o = one_right (stmt_counted sizes f) _ c (one_right (stmt_counted sizes n) _ c (its s body c h.0 o))
  part_step (act.Return x) line spot s there h c o = absurd h
  part_step act.Break line spot s there h c o = absurd h
  part_step act.Continue line spot s there h c o = absurd h
  part_step (act.Declare d) line spot s there h c o = absurd h
  part_step (act.Cle p) line spot s there h c o = absurd h

  pub stands_counted : (s : Stmt) (there : Spot) (t : Stmt) (spot : Spot) → StandsIn s there t spot → (c : Counted) → OneOf (stmt_counted sizes s) c → OneOf (stmt_counted sizes t) c
  stands_counted s there t spot itself c o = o
  stands_counted s there t spot (in_part part inner p i) c o =
      subst (λ w. OneOf w c) (sym (stmt_counted_is t)) (part_step (out-Act t.node) t.line spot part inner p c (stands_counted s there part inner i c o))

  body_counts : (i : Item) (names : Env) (s : Stmt) (spot : Spot) → BodyHas i names s spot → (c : Counted) → OneOf (stmt_counted sizes s) c → OneOf (in_item sizes i) c
  unfolding in_item body_counted
  body_counts (item.Struct name members line) names s spot h c o = absurd h
  body_counts (item.Variables d) names s spot h c o = absurd h
  body_counts (item.Function is_static result name void_word params None line second) names s spot h c o = absurd h
  body_counts (item.Function is_static result name void_word params (Some body) line second) names s spot h c o =
      inr (one_in (stmt_counted sizes) body s c (among_stmt body _ s spot h) o)
  body_counts (item.Cle p line) names s spot h c o = absurd h

  pub in_body_counts : (i : Item) (names : Env) (s : Stmt) (spot : Spot) → InBody i names s spot → (c : Counted) → OneOf (stmt_counted sizes s) c → OneOf (in_item sizes i) c
  in_body_counts i names s spot h c o = body_counts i names h.outermost h.spot h.among c (stands_counted s spot h.outermost h.spot h.stands c o)

  -- ---- declarations

  pub object_one : (ds : List Declarator) (d : Declarator) → OneOf ds d → OneOf (objects sizes ds) (an_object d.second (size_of sizes d.ctype))
  unfolding objects
  object_one [] d h = absurd h
  object_one (e ∷ ds) d (inl h) = inl (ap (λ (w : Declarator). an_object w.second (size_of sizes w.ctype)) h)
  object_one (e ∷ ds) d (inr h) = inr (object_one ds d h)

  pub all_one : (ds : List Declarator) (d : Declarator) → OneOf ds d → size_of sizes d.ctype ≤ size_of_all sizes ds
  unfolding size_of_all
  all_one [] d h = absurd h
  all_one (e ∷ ds) d (inl h) = let p : size_of sizes d.ctype ≡ size_of sizes e.ctype = ap (λ (w : Declarator). size_of sizes w.ctype) h in omega arith
  all_one (e ∷ ds) d (inr h) = let p : size_of sizes d.ctype ≤ size_of_all sizes ds = all_one ds d h in omega arith

  static_of : (b : Bool) (ds : List Declarator) (c : Counted) → b ≡ true → OneOf (objects sizes ds) c → OneOf (if b then objects sizes ds else []) c
  static_of true ds c p o = o
  static_of false ds c p o = absurd cc

  local_of : (b : Bool) (ds : List Declarator) (n : ℕ) → b ≡ false → n ≤ size_of_all sizes ds → n ≤ (if b then 0 else size_of_all sizes ds)
  local_of true ds n p h = absurd cc
  local_of false ds n p h = h

  pub static_counted : (s : Stmt) (d : Declaration) → out-Act s.node ≡ act.Declare d → d.is_static ≡ true → (name : Declarator) → OneOf d.names name → OneOf (stmt_counted sizes s) (an_object name.second (size_of sizes name.ctype))
  unfolding declared_objects
  static_counted s d p q name o =
      subst (λ w. OneOf w (an_object name.second (size_of sizes name.ctype))) (sym (stmt_counted_is s))
      (subst (λ (w : Act-F Act Stmt). OneOf (act_counted sizes (counted_parts w) s.line) (an_object name.second (size_of sizes name.ctype))) (sym p)
      (static_of d.is_static d.names _ q (object_one d.names name o)))

  pub local_sized : (s : Stmt) (d : Declaration) → out-Act s.node ≡ act.Declare d → d.is_static ≡ false → (name : Declarator) → OneOf d.names name → size_of sizes name.ctype ≤ stmt_locals sizes s
  unfolding declared_size
  local_sized s d p q name o =
      subst (λ n. size_of sizes name.ctype ≤ n) (sym (stmt_locals_is s))
      (subst (λ (w : Act-F Act Stmt). size_of sizes name.ctype ≤ act_locals sizes (local_parts w)) (sym p)
      (local_of d.is_static d.names _ q (all_one d.names name o)))

  -- ---- locals

  as_local : (s a : Stmt) → s ≡ a → stmt_locals sizes s ≡ stmt_locals sizes a
  as_local s a p = ap (stmt_locals sizes) p

  some_local : (s a : Stmt) → ◌≡◌ {A = Option Stmt} (Some a) (Some s) → stmt_locals sizes s ≡ stmt_locals sizes a
  some_local s a p = let e : s ≡ a = cc in as_local s a e

  local_step : (y : Act-F Act Stmt) (spot : Spot) (s : Stmt) (there : Spot) → PartOf y spot s there → stmt_locals sizes s ≤ act_locals sizes (local_parts y)
  local_step act.Empty spot s there h = absurd h
  local_step (act.Block ss) spot s there h = sum_one (stmt_locals sizes) ss s (among_stmt ss spot s there h)
  local_step (act.Set op place value) spot s there h = absurd h
  local_step (act.Bump up prefix place) spot s there h = absurd h
  local_step (act.Call x) spot s there h = absurd h
  local_step (act.If x a None) spot s there (inl p, q) = omega (arith, as_local s a p)
  local_step (act.If x a None) spot s there (inr p, q) = absurd cc
  local_step (act.If x a (Some b)) spot s there (inl p, q) = omega (arith, as_local s a p)
  local_step (act.If x a (Some b)) spot s there (inr p, q) = omega (arith, some_local s b p)
  local_step (act.While x body) spot s there h = omega (arith, as_local s body h.0)
  local_step (act.DoWhile body x) spot s there h = omega (arith, as_local s body h.0)
  local_step (act.For None test None body) spot s there (inl h) = absurd cc
  local_step (act.For None test None body) spot s there (inr (inl h)) = absurd cc
  local_step (act.For None test None body) spot s there (inr (inr h)) = omega (arith, as_local s body h.0)
  local_step (act.For None test (Some n) body) spot s there (inl h) = absurd cc
  local_step (act.For None test (Some n) body) spot s there (inr (inl h)) = omega (arith, some_local s n h.0)
  local_step (act.For None test (Some n) body) spot s there (inr (inr h)) = omega (arith, as_local s body h.0)
  local_step (act.For (Some f) test None body) spot s there (inl h) = omega (arith, some_local s f h.0)
  local_step (act.For (Some f) test None body) spot s there (inr (inl h)) = absurd cc
  local_step (act.For (Some f) test None body) spot s there (inr (inr h)) = omega (arith, as_local s body h.0)
  local_step (act.For (Some f) test (Some n) body) spot s there (inl h) = omega (arith, some_local s f h.0)
  local_step (act.For (Some f) test (Some n) body) spot s there (inr (inl h)) = omega (arith, some_local s n h.0)
  local_step (act.For (Some f) test (Some n) body) spot s there (inr (inr h)) = omega (arith, as_local s body h.0)
  local_step (act.Return x) spot s there h = absurd h
  local_step act.Break spot s there h = absurd h
  local_step act.Continue spot s there h = absurd h
  local_step (act.Declare d) spot s there h = absurd h
  local_step (act.Cle p) spot s there h = absurd h

  pub stands_local : (s : Stmt) (there : Spot) (t : Stmt) (spot : Spot) → StandsIn s there t spot → stmt_locals sizes s ≤ stmt_locals sizes t
  stands_local s there t spot itself = omega arith
  stands_local s there t spot (in_part part inner p i) =
      let a : stmt_locals sizes s ≤ stmt_locals sizes part = stands_local s there part inner i in
      let b : stmt_locals sizes part ≤ act_locals sizes (local_parts (out-Act t.node)) = local_step (out-Act t.node) spot part inner p in
      let c : stmt_locals sizes t ≡ act_locals sizes (local_parts (out-Act t.node)) = stmt_locals_is t in
      omega arith

  body_one : (i : Item) (names : Env) (s : Stmt) (spot : Spot) → BodyHas i names s spot → (limit : ℕ) → BodyWithin sizes limit i → stmt_locals sizes s ≤ limit
  unfolding body_size
  body_one (item.Struct name members line) names s spot h limit w = absurd h
  body_one (item.Variables d) names s spot h limit w = absurd h
  body_one (item.Function is_static result name void_word params None line second) names s spot h limit w = absurd h
  body_one (item.Function is_static result name void_word params (Some body) line second) names s spot h limit w =
      let a : stmt_locals sizes s ≤ sum (map (stmt_locals sizes) body) = sum_one (stmt_locals sizes) body s (among_stmt body _ s spot h) in
      omega arith
  body_one (item.Cle p line) names s spot h limit w = absurd h

  pub param_one : (i : Item) (limit : ℕ) → BodyWithin sizes limit i → (d : Declarator) → OneOf (body_params i) d → size_of sizes d.ctype ≤ limit
  unfolding body_size
  param_one (item.Struct name members line) limit w d o = absurd o
  param_one (item.Variables v) limit w d o = absurd o
  param_one (item.Function is_static result name void_word params None line second) limit w d o = absurd o
  param_one (item.Function is_static result name void_word params (Some body) line second) limit w d o =
      let a : size_of sizes d.ctype ≤ size_of_all sizes params = all_one params d o in
      omega arith
  param_one (item.Cle p line) limit w d o = absurd o

  pub local_one : (i : Item) (names : Env) (s : Stmt) (spot : Spot) → InBody i names s spot → (limit : ℕ) → BodyWithin sizes limit i → stmt_locals sizes s ≤ limit
  local_one i names s spot h limit w =
      let a : stmt_locals sizes h.outermost ≤ limit = body_one i names h.outermost h.spot h.among limit w in
      let b : stmt_locals sizes s ≤ stmt_locals sizes h.outermost = stands_local s spot h.outermost h.spot h.stands in
      omega arith

  -- ---- elements

  size_is : (t : CType) → size_of sizes t ≡ size_step sizes (map-CType CType ℕ (size_of sizes) (out-CType t))
  unfolding size_of
  size_is t = fold_out-CType ℕ (size_step sizes) t

  array_is : (t : CType) (n : ℕ) → size_of sizes (Array t n) ≡ n * size_of sizes t
  array_is t n = size_is (Array t n) ∙ ap (λ (w : CType-F CType). size_step sizes (map-CType CType ℕ (size_of sizes) w)) (outs-Array t n)

  times_least : (n m : ℕ) → 1 ≤ n → m ≤ n * m
  times_least n m h = let p : 1 * m ≤ n * m = mul-le 1 m n m h (omega arith) in omega arith

  pub element_no_larger : (t : CType) (n : ℕ) → 1 ≤ n → size_of sizes t ≤ size_of sizes (Array t n)
  element_no_larger t n h = subst (λ w. size_of sizes t ≤ w) (sym (array_is t n)) (times_least n (size_of sizes t) h)

-- ---- items

pub body_within : (program : Program) → too_large program ≡ [] → (i : Item) (sizes : List Size) → HasSizes program i sizes → BodyWithin sizes 8192 i
unfolding in_item body_counted
body_within program e (item.Struct name members line) sizes h = tt
body_within program e (item.Variables d) sizes h = tt
body_within program e (item.Function is_static result name void_word params None line second) sizes h = tt
body_within program e (item.Function is_static result name void_word params (Some body) line second) sizes h =
    function_small program e (item.Function is_static result name void_word params (Some body) line second) sizes h line (body_size sizes params body) (inl refl)
body_within program e (item.Cle p line) sizes h = tt
