-- Statements do the same where what calls do is alike.
use Rattle.std.proofs.Common.{◌≡◌, ℕ, zero, suc, ◌≤◌, arith, ◌+◌, ◌==◌, eqb-true, ℤ, pos, List, [], ◌∷◌, ◌++◌, map, length, refl, subst, sym, ap, Bool, true, false, if◌then◌else◌, Option, Some, None}
use Rattle.std.specs.Prelude.{bytes_eq, codes}
use Rattle.std.specs.List.{flat_map}
use Rattle.cl_tree.specs.declared.kinds.IntKind.{IntKind}
use Rattle.cl_tree.specs.declared.kinds.IntKind.TheVariants.{U8, I32}
use Rattle.cl_tree.specs.declared.kinds.BinOp.{BinOp}
use Rattle.cl_tree.specs.declared.kinds.BinOp.TheVariants.{Add, Sub}
use Rattle.cl_tree.specs.declared.tree.Expr.{Expr}
use Rattle.cl_tree.specs.declared.tree.Node.{Node, Node-F, out-Node}
use Rattle.cl_tree.specs.declared.tree.Node.TheOpen as node
use Rattle.cl_tree.specs.declared.tree.Init.{Init, Init-F, out-Init}
use Rattle.cl_tree.specs.declared.tree.Init.TheOpen as init
use Rattle.cl_tree.specs.declared.tree.Declarator.{Declarator}
use Rattle.cl_tree.specs.declared.tree.Stmt.{Stmt}
use Rattle.cl_tree.specs.declared.tree.Act.{Act, Act-F, out-Act}
use Rattle.cl_tree.specs.declared.tree.Act.TheOpen as act
use Rattle.cl_tree.specs.Arithmetic.{value, residue}
use Rattle.cl_tree.specs.Words.{Word}
use Rattle.cl_mean.specs.declared.form.Form.{Form}
use Rattle.cl_mean.specs.Value.{Labelled, bare, Value, number, no_value, each}
use Rattle.cl_mean.specs.Shape.{Shape, nothing, integer, struct, array, part_in, shape_of, zero_of}
use Rattle.cl_mean.specs.State.{Place, Written, deeper, put_byte, count_step}
use Rattle.cl_mean.specs.Course.{unbounded, meaningless, Computation, pure, halted, the_number, fetched, stored, within, ◌>>=◌, ◌>>◌}
use Rattle.cl_mean.specs.Source.{Binding, Env, Definition, is_annotated, Source, function_named}
use Rattle.cl_mean.specs.Evaluation.{Spot, Calls, Scope, Meaning, spot_of, kind_of, integer_of, as_kind, operand, in_type, is_true, applied, working_kind, right_kind, meaning_of}
use Rattle.cl_mean.specs.Printing.{Piece, byte, form, conversions, form_text, byte_for, form_bytes, printed}
use Rattle.cl_mean.specs.Execution.{Ending, goes_on, breaks, continues, returns, then_next, closed, scoped, Doing, next_static, in_turn, if_there, relabelled, put, assigned, updated, one, set_by, Filling, fill_parts, init_fills, fills, filled, local_binding, made_zero, declared, binding_at, with_static, with_statics, declaration, put_bytes, put_format, integers, low_byte, format_of, printing, putting, call_done, tested, rounds, returned_as, act_run, act_doing, doing_of}
pub use Rattle.mean_laws.specs.Alike.{Bytes1, BytesAll}
use Rattle.mean_laws.proofs.Alike.{Family, alike_pure, Num, Nums, nums_length, Same, same_refl, each_same, Any, Alike, alike_halt, alike_number, alike_lax, alike_meet, Respects, Bounds, less, Loops, looped_like, Spots, Bound, Envs, Endings, MaybeKnown, CallsAlike}
use Rattle.mean_laws.proofs.Induction.{Each, InitParts, init_induction, filling, fills_is, StmtParts, stmt_induction, done_in, doing_is}
use Rattle.mean_laws.proofs.Expressions

-- ---- output

bytes_for : (x y : Labelled) (bs : List ℕ) → BytesAll (map (byte_for x) bs) (map (byte_for y) bs)
bytes_for x y [] = tt
bytes_for x y (b ∷ bs) = (refl, bytes_for x y bs)

bytes_app : (vs ws vs' ws' : List Written) → BytesAll vs ws → BytesAll vs' ws' → BytesAll (vs ++ vs') (ws ++ ws')
bytes_app [] [] vs' ws' h k = k
bytes_app [] (w ∷ ws) vs' ws' h k = absurd h
bytes_app (v ∷ vs) [] vs' ws' h k = absurd h
bytes_app (v ∷ vs) (w ∷ ws) vs' ws' h k = (h.0, bytes_app vs ws vs' ws' h.1 k)

form_same : (f : Form) (x y : Labelled) → Num x y → BytesAll (form_bytes f x) (form_bytes f y)
form_same f x y p = subst (λ (n : ℤ). BytesAll (map (byte_for x) (form_text f x.number)) (map (byte_for y) (form_text f n))) p (bytes_for x y (form_text f x.number))

pub printed_same : (ps : List Piece) (xs ys : List Labelled) → Nums xs ys → BytesAll (printed ps xs) (printed ps ys)
unfolding printed
printed_same [] xs ys h = tt
printed_same (byte b ∷ ps) xs ys h = (refl, printed_same ps xs ys h)
printed_same (form f ∷ ps) [] [] h = printed_same ps [] [] tt
printed_same (form f ∷ ps) [] (y ∷ ys) h = absurd h
printed_same (form f ∷ ps) (x ∷ xs) [] h = absurd h
printed_same (form f ∷ ps) (x ∷ xs) (y ∷ ys) h = bytes_app (form_bytes f x) (form_bytes f y) (printed ps xs) (printed ps ys) (form_same f x y h.0) (printed_same ps xs ys h.1)

module _ (F : Family) (At : Place → Place → Type 0) (source : Source) (Known : Definition → Type 0) (named : (name : Word) → MaybeKnown Known (function_named source.functions name)) (here : Definition) (calls : Calls) (calls' : Calls) (c : Respects F At here.level) (hc : CallsAlike F At Known here calls calls') where
  abbrev pub sx : Scope
  sx = record { source = source; calls = calls; here = here }

  abbrev pub sy : Scope
  sy = record { source = source; calls = calls'; here = here }

  abbrev pub Like : {A B : Type 0} → (A → B → Type 0) → Computation A → Computation B → Type 0
  Like P m n = Alike F P m n

  abbrev pub Means : Meaning → Meaning → Type 0
  Means m n = Expressions.Means F At source Known named here calls calls' c hc m n

  then_like : {A B C D : Type 0} (P : A → B → Type 0) (Q : C → D → Type 0) (m : Computation A) (n : Computation B) (f : A → Computation C) (g : B → Computation D) → Like P m n → ((a : A) (b : B) → P a b → Like Q (f a) (g b)) → Like Q (m >>= f) (n >>= g)
  then_like P Q m n f g hm hf = Expressions.then_like F At source Known named here calls calls' c hc P Q m n f g hm hf

  -- one computation behind another that gives nothing
  next_like : {A B C D : Type 0} (P : A → B → Type 0) (Q : C → D → Type 0) (m : Computation A) (n : Computation B) (f : Computation C) (g : Computation D) → Like P m n → Like Q f g → Like Q (m >> f) (n >> g)
  next_like P Q m n f g hm hf = then_like P Q m n (λ _. f) (λ _. g) hm (λ a b p. hf)

  pure_like : {A B : Type 0} (P : A → B → Type 0) (a : A) (b : B) → P a b → Like P (pure a) (pure b)
  pure_like P a b p = alike_pure F P a b p

  if_like : {A B : Type 0} (P : A → B → Type 0) (b d : Bool) (m m' : Computation A) (n n' : Computation B) → b ≡ d → Like P m n → Like P m' n' → Like P (if b then m else m') (if d then n else n')
  if_like P b d m m' n n' e h k = Expressions.if_like F At source Known named here calls calls' c hc P b d m m' n n' e h k

  expr : (e e' : Env) → Envs At e e' → (x : Expr) → Means (meaning_of sx e x) (meaning_of sy e' x)
  expr e e' g x = Expressions.expression_like F At source Known named here calls calls' c hc e e' g x

  integer_like : (m : Meaning) (n : Meaning) → Means m n → Like Num (integer_of m) (integer_of n)
  integer_like m n h = Expressions.integer_like F At source Known named here calls calls' c hc m n h

  kind_like : (m : Meaning) (n : Meaning) → Means m n → kind_of m ≡ kind_of n
  kind_like m n h = Expressions.kind_like F At source Known named here calls calls' c hc m n h

  operand_like : (k k' : IntKind) (m : Meaning) (n : Meaning) → k ≡ k' → Means m n → Like Num (operand k m) (operand k' n)
  operand_like k k' m n e h = Expressions.operand_like F At source Known named here calls calls' c hc k k' m n e h

  spot_like : (m : Meaning) (n : Meaning) → Means m n → Like (Spots At) (spot_of m) (spot_of n)
  spot_like m n h = Expressions.spot_like F At source Known named here calls calls' c hc m n h

  -- ---- how statements end

  abbrev pub Flows : Ending → Ending → Type 0
  Flows a b = Endings At a b

  after_like : (f : Env → Computation Ending) (g : Env → Computation Ending) → ((e e' : Env) → Envs At e e' → Like Flows (f e) (g e')) → (a b : Ending) → Flows a b → Like Flows (then_next f a) (then_next g b)
  after_like f g h (goes_on e) (goes_on e') s = h e e' s
  after_like f g h breaks breaks s = pure_like Flows breaks breaks tt
  after_like f g h continues continues s = pure_like Flows continues continues tt
  after_like f g h (returns v) (returns w) s = pure_like Flows (returns v) (returns w) s
  after_like f g h _ _ s = absurd s

  closed_like : (e e' : Env) → Envs At e e' → (a b : Ending) → Flows a b → Flows (closed e a) (closed e' b)
  closed_like e e' g (goes_on i) (goes_on i') s = g
  closed_like e e' g breaks breaks s = tt
  closed_like e e' g continues continues s = tt
  closed_like e e' g (returns v) (returns w) s = s
  closed_like e e' g _ _ s = absurd s

  scoped_like : (e e' : Env) (m : Computation Ending) (n : Computation Ending) → Envs At e e' → Like Flows m n → Like Flows (scoped e m) (scoped e' n)
  scoped_like e e' m n g h = then_like Flows Flows m n _ _ h (λ a b s. pure_like Flows (closed e a) (closed e' b) (closed_like e e' g a b s))

  abbrev pub Runs : (ℕ → Env → Computation Ending) → (ℕ → Env → Computation Ending) → Type 0
  Runs f g = (k : ℕ) (e e' : Env) → Envs At e e' → Like Flows (f k e) (g k e')

  abbrev pub Doings : Doing → Doing → Type 0
  Doings a b = (a.statics ≡ b.statics) × Runs a.run b.run

  behind_same : (k : ℕ) (a : Doing) (b : Doing) → Doings a b → next_static k a ≡ next_static k b
  behind_same k a b h = ap (λ (ds : List Declarator). k + length ds) h.0

  -- ---- stores

  put_like : (s t : Spot) (v w : Value) (m : Computation Ending) (n : Computation Ending) → Spots At s t → Same v w → Like Flows m n → Like Flows (put here s v m) (put here t w n)
  put_like s t v w m n q p h =
      next_like Any Flows (stored s.place (each (relabelled (is_annotated here) s.root) v)) (stored t.place (each (relabelled (is_annotated here) t.root) w)) m n
      (c.stores s.place t.place _ _ q.0 (each_same (relabelled (is_annotated here) s.root) (relabelled (is_annotated here) t.root) (λ x y r. r) v w p)) h

  type_like : (k k' : Shape) (m : Meaning) (n : Meaning) → k ≡ k' → Means m n → Like Same (in_type k m) (in_type k' n)
  type_like k k' m n e h = subst (λ (z : Shape). Like Same (in_type k m) (in_type z n)) e (Expressions.type_like F At source Known named here calls calls' c hc k m n h)

  assigned_like : (a b : Meaning) (a' b' : Meaning) (m : Computation Ending) (n : Computation Ending) → Means a a' → Means b b' → Like Flows m n → Like Flows (assigned here a b m) (assigned here a' b' n)
  assigned_like a b a' b' m n h k g =
      then_like (Spots At) Flows (spot_of a) (spot_of a') _ _ (spot_like a a' h) (λ s t q.
      then_like Same Flows (in_type a.shape b) (in_type a'.shape b') _ _ (type_like a.shape a'.shape b b' h.0 k) (λ v w p. put_like s t v w m n q p g))

  updated_like : (op : BinOp) (line : ℕ) (a b : Meaning) (a' b' : Meaning) (m : Computation Ending) (n : Computation Ending) → Means a a' → Means b b' → Like Flows m n → Like Flows (updated here op line a b m) (updated here op line a' b' n)
  updated_like op line a b a' b' m n h k g =
      let w : working_kind op (kind_of a) (kind_of b) ≡ working_kind op (kind_of a') (kind_of b') = Expressions.two_same (working_kind op) (kind_of a) (kind_of a') (kind_of b) (kind_of b') (kind_like a a' h) (kind_like b b' k) in
      let r : right_kind op (kind_of a) (kind_of b) ≡ right_kind op (kind_of a') (kind_of b') = Expressions.two_same (right_kind op) (kind_of a) (kind_of a') (kind_of b) (kind_of b') (kind_like a a' h) (kind_like b b' k) in
      then_like (Spots At) Flows (spot_of a) (spot_of a') _ _ (spot_like a a' h) (λ s t q.
      then_like Num Flows (fetched s.place >>= the_number) (fetched t.place >>= the_number) _ _
      (then_like Same Num (fetched s.place) (fetched t.place) the_number the_number (c.fetches s.place t.place q.0) (alike_number F)) (λ o o' j.
      then_like Num Flows (operand (right_kind op (kind_of a) (kind_of b)) b) (operand (right_kind op (kind_of a') (kind_of b')) b') _ _ (operand_like _ _ b b' r k) (λ y y' z.
      then_like Num Flows (applied here.level line op (working_kind op (kind_of a) (kind_of b)) (as_kind (working_kind op (kind_of a) (kind_of b)) o) y) (applied here.level line op (working_kind op (kind_of a') (kind_of b')) (as_kind (working_kind op (kind_of a') (kind_of b')) o') y') _ _
      (Expressions.applied_like F At source Known named here calls calls' c hc line op (working_kind op (kind_of a) (kind_of b)) (working_kind op (kind_of a') (kind_of b')) (as_kind (working_kind op (kind_of a) (kind_of b)) o) y (as_kind (working_kind op (kind_of a') (kind_of b')) o') y' w (Expressions.two_same value _ _ _ _ w j) z) (λ x x' i.
      put_like s t (number (as_kind (kind_of a) x)) (number (as_kind (kind_of a') x')) m n q (Expressions.two_same value _ _ _ _ (kind_like a a' h) i) g))))

  set_like : (op : Option BinOp) (line : ℕ) (a b : Meaning) (a' b' : Meaning) (m : Computation Ending) (n : Computation Ending) → Means a a' → Means b b' → Like Flows m n → Like Flows (set_by here op line a b m) (set_by here op line a' b' n)
  set_like None line a b a' b' m n h k g = assigned_like a b a' b' m n h k g
  set_like (Some op) line a b a' b' m n h k g = updated_like op line a b a' b' m n h k g

  one_like : Means one one
  one_like = Expressions.computed_like F At source Known named here calls calls' c hc I32 I32 (pure (bare (pos 1))) (pure (bare (pos 1))) refl (alike_pure F _ _ _ refl)

  -- ---- initialisers and declarations

  abbrev pub Fills : Filling → Filling → Type 0
  Fills f g = (shape : Shape) (p q : Place) → At p q → Like Any (f shape p) (g shape q)

  parts_like : (e e' : Env) (is : List Init) → Each (λ i. Fills (fills sx e i) (fills sy e' i)) is → (i : ℕ) → Fills (fill_parts i (map (fills sx e) is)) (fill_parts i (map (fills sy e') is))
  parts_like e e' [] h i shape p q a = alike_pure F _ _ _ (tt)
  parts_like e e' (x ∷ xs) h i shape p q a =
      next_like Any Any (fills sx e x (part_in shape i) (deeper p i)) (fills sy e' x (part_in shape i) (deeper q i)) _ _ (h.0 (part_in shape i) (deeper p i) (deeper q i) (c.deeper_at p q i a)) (parts_like e e' xs h.1 (suc i) shape p q a)

  init_like : (e e' : Env) → Envs At e e' → (x : Init-F Init) → InitParts (λ i. Fills (fills sx e i) (fills sy e' i)) x → Fills (init_fills sx e (filling sx e x)) (init_fills sy e' (filling sy e' x))
  init_like e e' g (init.One x) h shape p q a =
      then_like Same Any (in_type shape (meaning_of sx e x)) (in_type shape (meaning_of sy e' x)) _ _ (type_like shape shape _ _ refl (expr e e' g x)) (λ v w s. c.stores p q v w a s)
  init_like e e' g (init.Many xs) h shape p q a = parts_like e e' xs h 0 shape p q a

  fills_like : (e e' : Env) → Envs At e e' → (i : Init) → Fills (fills sx e i) (fills sy e' i)
  fills_like e e' g = init_induction (λ i. Fills (fills sx e i) (fills sy e' i)) (λ i h.
      subst (λ (f : Filling). Fills f (fills sy e' i)) (sym (fills_is sx e i))
      (subst (λ (f : Filling). Fills (init_fills sx e (filling sx e (out-Init i))) f) (sym (fills_is sy e' i)) (init_like e e' g (out-Init i) h)))

  pub filled_like : (e e' : Env) → Envs At e e' → (i : Option Init) → Fills (filled sx e i) (filled sy e' i)
  filled_like e e' g None shape p q a = alike_pure F _ _ _ (tt)
  filled_like e e' g (Some i) shape p q a = fills_like e e' g i shape p q a

  made_like : (k : Shape) → Like At (made_zero here.level k) (made_zero here.level k)
  made_like nothing = alike_halt F At meaningless tt
  made_like (integer kind) = c.makes _ _ (same_refl (zero_of (integer kind)))
  made_like (struct ms) = c.makes _ _ (same_refl (zero_of (struct ms)))
  made_like (array element size) = c.makes _ _ (same_refl (zero_of (array element size)))

  declared_like : (ds : List Declarator) (e e' : Env) → Envs At e e' → Like Flows (declared sx ds e) (declared sy ds e')
  declared_like [] e e' g = pure_like Flows (goes_on e) (goes_on e') g
  declared_like (d ∷ ds) e e' g =
      then_like At Flows (made_zero here.level (shape_of source.structs d.ctype)) (made_zero here.level (shape_of source.structs d.ctype)) _ _ (made_like (shape_of source.structs d.ctype)) (λ p q a.
      let g' : Envs At (local_binding d.name (shape_of source.structs d.ctype) p ∷ e) (local_binding d.name (shape_of source.structs d.ctype) q ∷ e') = ((refl, refl, a, refl), g) in
      next_like Any Flows (filled sx (local_binding d.name (shape_of source.structs d.ctype) p ∷ e) d.init (shape_of source.structs d.ctype) p) (filled sy (local_binding d.name (shape_of source.structs d.ctype) q ∷ e') d.init (shape_of source.structs d.ctype) q) _ _
      (filled_like _ _ g' d.init (shape_of source.structs d.ctype) p q a)
      (declared_like ds _ _ g'))

  -- static locals at the function's level lie at places that correspond to themselves
  module _ (st : (b : Binding) → b.place.level ≡ here.level → Bound At b b) where
    with_like : (o : Option Binding) (f g : Env → Computation Ending) → ((e e' : Env) → Envs At e e' → Like Flows (f e) (g e')) → (e e' : Env) → Envs At e e' → Like Flows (with_static here.level o f e) (with_static here.level o g e')
    with_like None f g k e e' i = alike_halt F Flows meaningless tt
    with_like (Some b) f g k e e' i = either (b.place.level == here.level) refl
      where
        either : (q : Bool) → (b.place.level == here.level) ≡ q → Like Flows (if q then f (b ∷ e) else halted meaningless) (if q then g (b ∷ e') else halted meaningless)
        either true q = k (b ∷ e) (b ∷ e') (st b (eqb-true b.place.level here.level q), i)
        either false q = alike_halt F Flows meaningless tt

    statics_like : (k : ℕ) (ds : List Declarator) (e e' : Env) → Envs At e e' → Like Flows (with_statics here.level here.statics k ds e) (with_statics here.level here.statics k ds e')
    statics_like k [] e e' g = pure_like Flows (goes_on e) (goes_on e') g
    statics_like k (d ∷ ds) e e' g = with_like (binding_at here.statics k) (with_statics here.level here.statics (suc k) ds) (with_statics here.level here.statics (suc k) ds) (statics_like (suc k) ds) e e' g

    declaration_like : (b : Bool) (ds : List Declarator) (k : ℕ) (e e' : Env) → Envs At e e' → Like Flows (declaration sx b ds k e) (declaration sy b ds k e')
    declaration_like true ds k e e' g = statics_like k ds e e' g
    declaration_like false ds k e e' g = declared_like ds e e' g

    -- ---- output

    put_bytes_like : (line : ℕ) (vs ws : List Written) (m : Computation Ending) (n : Computation Ending) → BytesAll vs ws → Like Flows m n → Like Flows (put_bytes here.level line vs m) (put_bytes here.level line ws n)
    put_bytes_like line [] [] m n h g = g
    put_bytes_like line [] (w ∷ ws) m n h g = absurd h
    put_bytes_like line (v ∷ vs) [] m n h g = absurd h
    put_bytes_like line (v ∷ vs) (w ∷ ws) m n h g = next_like Any Flows (within here.level line (put_byte v)) (within here.level line (put_byte w)) _ _ (c.puts line v w h.0) (put_bytes_like line vs ws m n h.1 g)

    integers_like : (e e' : Env) → Envs At e e' → (xs : List Expr) → Like Nums (integers (map (meaning_of sx e) xs)) (integers (map (meaning_of sy e') xs))
    integers_like e e' g [] = pure_like Nums [] [] tt
    integers_like e e' g (x ∷ xs) =
        then_like Num Nums (integer_of (meaning_of sx e x)) (integer_of (meaning_of sy e' x)) _ _ (integer_like _ _ (expr e e' g x)) (λ a b p.
        then_like Nums Nums (integers (map (meaning_of sx e) xs)) (integers (map (meaning_of sy e') xs)) _ _ (integers_like e e' g xs) (λ as' bs q. pure_like Nums (a ∷ as') (b ∷ bs) (p, q)))

    format_like : (line : ℕ) (o : Option (List Piece)) (xs ys : List Labelled) → Nums xs ys → (m : Computation Ending) (n : Computation Ending) → Like Flows m n → Like Flows (put_format here.level line o xs m) (put_format here.level line o ys n)
    format_like line None xs ys p m n h = alike_halt F Flows meaningless tt
    format_like line (Some ps) xs ys p m n h =
        if_like Flows (conversions ps == length xs) (conversions ps == length ys) _ _ _ _ (ap (λ (k : ℕ). conversions ps == k) (nums_length xs ys p))
        (put_bytes_like line (printed ps xs) (printed ps ys) m n (printed_same ps xs ys p) h) (alike_halt F Flows meaningless tt)

    printing_like : (line : ℕ) (e e' : Env) → Envs At e e' → (xs : List Expr) (m : Computation Ending) (n : Computation Ending) → Like Flows m n → Like Flows (printing sx e line xs m) (printing sy e' line xs n)
    printing_like line e e' g [] m n h = alike_halt F Flows meaningless tt
    printing_like line e e' g (f ∷ xs) m n h =
        then_like Nums Flows (integers (map (meaning_of sx e) xs)) (integers (map (meaning_of sy e') xs)) _ _ (integers_like e e' g xs) (λ a b p.
        format_like line (format_of (out-Node f.node)) a b p m n h)

    putting_like : (line : ℕ) (e e' : Env) → Envs At e e' → (xs : List Expr) (m : Computation Ending) (n : Computation Ending) → Like Flows m n → Like Flows (putting sx e line xs m) (putting sy e' line xs n)
    putting_like line e e' g [] m n h = alike_halt F Flows meaningless tt
    putting_like line e e' g (x ∷ (y ∷ xs)) m n h = alike_halt F Flows meaningless tt
    putting_like line e e' g (x ∷ []) m n h =
        then_like Num Flows (integer_of (meaning_of sx e x)) (integer_of (meaning_of sy e' x)) _ _ (integer_like _ _ (expr e e' g x)) (λ a b p.
        put_bytes_like line (low_byte a ∷ []) (low_byte b ∷ []) m n (ap (residue U8) p, tt) h)

    dropped_like : (e e' : Env) → Envs At e e' → (x : Expr) (m : Computation Ending) (n : Computation Ending) → Like Flows m n → Like Flows ((meaning_of sx e x).value >> m) ((meaning_of sy e' x).value >> n)
    dropped_like e e' g x m n h = next_like Same Flows (meaning_of sx e x).value (meaning_of sy e' x).value m n (expr e e' g x).2 h

    called_like : (e e' : Env) → Envs At e e' → (x : Expr) (y : Node-F Node Expr) (m : Computation Ending) (n : Computation Ending) → Like Flows m n → Like Flows (call_done sx e x y m) (call_done sy e' x y n)
    called_like e e' g x (node.Call name xs) m n h =
        if_like Flows (bytes_eq name (codes "printf")) (bytes_eq name (codes "printf")) _ _ _ _ refl (printing_like x.line e e' g xs m n h)
        (if_like Flows (bytes_eq name (codes "putchar")) (bytes_eq name (codes "putchar")) _ _ _ _ refl (putting_like x.line e e' g xs m n h) (dropped_like e e' g x m n h))
    called_like e e' g x _ m n h = dropped_like e e' g x m n h

    -- ---- loops

    tested_like : (e e' : Env) → Envs At e e' → (x : Option Expr) → Like (λ (a b : Bool). a ≡ b) (tested sx e x) (tested sy e' x)
    tested_like e e' g None = pure_like (λ (a b : Bool). a ≡ b) true true refl
    tested_like e e' g (Some x) =
        then_like Num (λ (a b : Bool). a ≡ b) (integer_of (meaning_of sx e x)) (integer_of (meaning_of sy e' x)) _ _ (integer_like _ _ (expr e e' g x)) (λ a b p. pure_like (λ (u v : Bool). u ≡ v) (is_true a) (is_true b) (Expressions.true_same F At source Known named here calls calls' c hc a b p))

    rounds_like : F.Meets → (k k' : ℕ) → Bounds F.Lax k k' → (f f' : Ending) (u : Computation Bool) (v : Computation Bool) (m m' : Computation Ending) (n n' : Computation Ending) → Flows f f' → Like (λ (a b : Bool). a ≡ b) u v → Like Flows m n → Like Flows m' n' → Like Flows (rounds k f u m m') (rounds k' f' v n n')
    rounds_like meet zero zero b f f' u v m m' n n' g h i j = alike_meet F Flows meet
    rounds_like meet zero (suc k') b f f' u v m m' n n' g h i j = alike_lax F Flows unbounded (rounds (suc k') f' v n n') (b.1 (omega arith))
    rounds_like meet (suc k) zero b f f' u v m m' n n' g h i j = let p : suc k ≤ 0 = b.0 in absurd (omega arith)
    rounds_like meet (suc k) (suc k') q f f' u v m m' n n' g h i j =
        then_like (λ (a b : Bool). a ≡ b) Flows u v _ _ h (λ a b p.
        if_like Flows a b _ _ _ _ p
        (then_like Flows Flows m n _ _ i (looped_like F At f f' _ _ g (next_like Flows Flows m' n' _ _ j (rounds_like meet k k' (less F.Lax k k' q) f f' u v m m' n n' g h i j))))
        (pure_like Flows f f' g))

    -- where one bound is no lower than the other
    pub loops_like : F.Meets → (k k' : ℕ) → Bounds F.Lax k k' → Loops F At here.level k k'
    loops_like meet k k' b line f f' u v m m' n n' g h i j = rounds_like meet k k' b f f' _ _ m m' n n' g (next_like Any (λ (a b : Bool). a ≡ b) (within here.level line count_step) (within here.level line count_step) u v (c.counts line) h) i j

    -- ---- statements

    module _ (bound bound' : ℕ) (loops : Loops F At here.level bound bound') where
      abbrev pub Agrees : Stmt → Type 0
      Agrees s = Doings (doing_of sx bound s) (doing_of sy bound' s)

      turn_like : (ss : List Stmt) → Each Agrees ss → Runs (in_turn (map (doing_of sx bound) ss)) (in_turn (map (doing_of sy bound') ss))
      turn_like [] h k e e' g = pure_like Flows (goes_on e) (goes_on e') g
      turn_like (s ∷ ss) h k e e' g =
          then_like Flows Flows ((doing_of sx bound s).run k e) ((doing_of sy bound' s).run k e') _ _ (h.0.1 k e e' g)
          (after_like _ _ (subst (λ (j : ℕ). (i i' : Env) → Envs At i i' → Like Flows (in_turn (map (doing_of sx bound) ss) (next_static k (doing_of sx bound s)) i) (in_turn (map (doing_of sy bound') ss) j i')) (behind_same k _ _ h.0) (turn_like ss h.1 (next_static k (doing_of sx bound s)))))

      statics_all : (ss : List Stmt) → Each Agrees ss → flat_map (λ (ds : List Declarator). ds) (map (λ (d : Doing). d.statics) (map (doing_of sx bound) ss)) ≡ flat_map (λ (ds : List Declarator). ds) (map (λ (d : Doing). d.statics) (map (doing_of sy bound') ss))
      statics_all [] h = refl
      statics_all (s ∷ ss) h = Expressions.two_same (λ (a b : List Declarator). a ++ b) _ _ _ _ h.0.0 (statics_all ss h.1)

      value_like : (k : Shape) (e e' : Env) → Envs At e e' → (x : Expr) → Like Flows (in_type k (meaning_of sx e x) >>= λ v. pure (returns v)) (in_type k (meaning_of sy e' x) >>= λ v. pure (returns v))
      value_like k e e' g x = then_like Same Flows (in_type k (meaning_of sx e x)) (in_type k (meaning_of sy e' x)) _ _ (type_like k k _ _ refl (expr e e' g x)) (λ v w s. pure_like Flows (returns v) (returns w) s)

      returned_like : (k : Shape) (e e' : Env) → Envs At e e' → (x : Option Expr) → Like Flows (returned_as sx e k x) (returned_as sy e' k x)
      returned_like nothing e e' g None = pure_like Flows (returns no_value) (returns no_value) tt
      returned_like nothing e e' g (Some x) = alike_halt F Flows meaningless tt
      returned_like (integer kind) e e' g None = alike_halt F Flows meaningless tt
      returned_like (integer kind) e e' g (Some x) = value_like (integer kind) e e' g x
      returned_like (struct ms) e e' g None = alike_halt F Flows meaningless tt
      returned_like (struct ms) e e' g (Some x) = value_like (struct ms) e e' g x
      returned_like (array element size) e e' g None = alike_halt F Flows meaningless tt
      returned_like (array element size) e e' g (Some x) = value_like (array element size) e e' g x

      there_like : (a : Option Doing) (b : Option Doing) → Runs (if_there a) (if_there b) → Runs (if_there a) (if_there b)
      there_like a b h = h

      none_like : Runs (if_there None) (if_there None)
      none_like k e e' g = pure_like Flows (goes_on e) (goes_on e') g

      branch_like : (x : Expr) (a : Doing) (a' : Doing) (b : Option Doing) (b' : Option Doing) (line second : ℕ) → Doings a a' → Runs (if_there b) (if_there b') → Runs (act_run sx bound (act.If x a b) line second) (act_run sy bound' (act.If x a' b') line second)
      branch_like x a a' b b' line second h i k e e' g =
          then_like Num Flows (integer_of (meaning_of sx e x)) (integer_of (meaning_of sy e' x)) _ _ (integer_like _ _ (expr e e' g x)) (λ u v p.
          if_like Flows (is_true u) (is_true v) _ _ _ _ (Expressions.true_same F At source Known named here calls calls' c hc u v p) (h.1 k e e' g)
          (subst (λ (j : ℕ). Like Flows (if_there b (next_static k a) e) (if_there b' j e')) (behind_same k a a' h) (i (next_static k a) e e' g)))

      for_like : (x : Option Expr) (a b : Option Doing) (a' b' : Option Doing) (m : Doing) (m' : Doing) (line second : ℕ) → Runs (if_there a) (if_there a') → Runs (if_there b) (if_there b') → Runs m.run m'.run → Runs (act_run sx bound (act.For a x b m) line second) (act_run sy bound' (act.For a' x b' m') line second)
      for_like x a b a' b' m m' line second h i j k e e' g =
          scoped_like e e' _ _ g (then_like Flows Flows (if_there a k e) (if_there a' k e') _ _ (h k e e' g)
          (after_like _ _ (λ o o' p. loops line (goes_on o) (goes_on o') _ _ _ _ _ _ p (tested_like o o' p x) (j k o o' p) (i k o o' p))))

      level_like : (x : Act-F Act Stmt) → StmtParts Agrees x → (line second : ℕ) → Doings (act_doing sx bound (done_in sx bound x) line second) (act_doing sy bound' (done_in sy bound' x) line second)
      level_like act.Empty h line second = (refl, λ k e e' g. pure_like Flows (goes_on e) (goes_on e') g)
      level_like (act.Block ss) h line second = (statics_all ss h, λ k e e' g. scoped_like e e' _ _ g (turn_like ss h k e e' g))
      level_like (act.Set op place x) h line second = (refl, λ k e e' g. set_like op second _ _ _ _ _ _ (expr e e' g place) (expr e e' g x) (pure_like Flows (goes_on e) (goes_on e') g))
      level_like (act.Bump up prefix place) h line second = (refl, λ k e e' g. updated_like (if up then Add else Sub) second (meaning_of sx e place) one (meaning_of sy e' place) one (pure (goes_on e)) (pure (goes_on e')) (expr e e' g place) one_like (pure_like Flows (goes_on e) (goes_on e') g))
      level_like (act.Call x) h line second = (refl, λ k e e' g. called_like e e' g x (out-Node x.node) _ _ (pure_like Flows (goes_on e) (goes_on e') g))
      level_like (act.If x a None) h line second = (Expressions.two_same (λ (u v : List Declarator). u ++ v) _ _ [] [] h.0.0 refl, branch_like x _ _ None None line second h.0 none_like)
      level_like (act.If x a (Some b)) h line second = (Expressions.two_same (λ (u v : List Declarator). u ++ v) _ _ _ _ h.0.0 h.1.0, branch_like x _ _ (Some (doing_of sx bound b)) (Some (doing_of sy bound' b)) line second h.0 h.1.1)
      level_like (act.While x m) h line second = (h.0, λ k e e' g. loops line (goes_on e) (goes_on e') _ _ _ _ _ _ g (tested_like e e' g (Some x)) (h.1 k e e' g) (pure_like Flows (goes_on e) (goes_on e') g))
      level_like (act.DoWhile m x) h line second = (
        h.0,
        λ k e e' g.
            then_like Flows Flows ((doing_of sx bound m).run k e) ((doing_of sy bound' m).run k e') _ _ (h.1 k e e' g)
            (looped_like F At (goes_on e) (goes_on e') _ _ g (loops line (goes_on e) (goes_on e') _ _ _ _ _ _ g (tested_like e e' g (Some x)) (h.1 k e e' g) (pure_like Flows (goes_on e) (goes_on e') g))),
      )
      level_like (act.For None x None m) h line second = (h.2.0, for_like x None None None None (doing_of sx bound m) (doing_of sy bound' m) line second none_like none_like h.2.1)
      level_like (act.For None x (Some b) m) h line second = (h.2.0, for_like x None (Some (doing_of sx bound b)) None (Some (doing_of sy bound' b)) (doing_of sx bound m) (doing_of sy bound' m) line second none_like h.1.1 h.2.1)
      level_like (act.For (Some a) x None m) h line second = (h.2.0, for_like x (Some (doing_of sx bound a)) None (Some (doing_of sy bound' a)) None (doing_of sx bound m) (doing_of sy bound' m) line second h.0.1 none_like h.2.1)
      level_like (act.For (Some a) x (Some b) m) h line second = (h.2.0, for_like x (Some (doing_of sx bound a)) (Some (doing_of sx bound b)) (Some (doing_of sy bound' a)) (Some (doing_of sy bound' b)) (doing_of sx bound m) (doing_of sy bound' m) line second h.0.1 h.1.1 h.2.1)
      level_like (act.Return x) h line second = (refl, λ k e e' g. returned_like here.result e e' g x)
      level_like act.Break h line second = (refl, λ k e e' g. pure_like Flows breaks breaks tt)
      level_like act.Continue h line second = (refl, λ k e e' g. pure_like Flows continues continues tt)
      level_like (act.Declare d) h line second = (refl, λ k e e' g. declaration_like d.is_static d.names k e e' g)
      level_like (act.Cle p) h line second = (refl, λ k e e' g. pure_like Flows (goes_on e) (goes_on e') g)

      -- A statement does the same in both runs.
      pub statement_like : (s : Stmt) → Agrees s
      statement_like = stmt_induction Agrees (λ s h.
          subst (λ (d : Doing). Doings d (doing_of sy bound' s)) (sym (doing_is sx bound s))
          (subst (λ (d : Doing). Doings (act_doing sx bound (done_in sx bound (out-Act s.node)) s.line s.second) d) (sym (doing_is sy bound' s))
          (level_like (out-Act s.node) h s.line s.second)))

      every : (ss : List Stmt) → Each Agrees ss
      every [] = tt
      every (s ∷ ss) = (statement_like s, every ss)

      -- and so does the body of a function
      pub body_like : (ss : List Stmt) → Runs (in_turn (map (doing_of sx bound) ss)) (in_turn (map (doing_of sy bound') ss))
      body_like ss = turn_like ss (every ss)
