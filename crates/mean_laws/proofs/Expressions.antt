-- Expressions do the same where what calls do is alike: numbers, traps and order never depend on labels.
use Rattle.std.proofs.Common.{◌≡◌, ℕ, ℤ, pos, List, [], ◌∷◌, map, refl, subst, sym, ap, Result, Ok, Err, Bool, true, false, not, if◌then◌else◌, Option, Some, None}
use Rattle.std.specs.Prelude.{unsigned_abs, bytes_eq, codes}
use Rattle.cl_tree.specs.declared.kinds.IntKind.{IntKind}
use Rattle.cl_tree.specs.declared.kinds.IntKind.TheVariants.{I32}
use Rattle.cl_tree.specs.declared.kinds.UnOp.{UnOp}
use Rattle.cl_tree.specs.declared.kinds.UnOp.TheVariants.{Star, Amp}
use Rattle.cl_tree.specs.declared.kinds.BinOp.{BinOp}
use Rattle.cl_tree.specs.declared.kinds.BinOp.TheVariants.{Or, And}
use Rattle.cl_tree.specs.declared.kinds.TrapCause.{TrapCause}
use Rattle.cl_tree.specs.declared.kinds.TrapCause.TheVariants.{Index}
use Rattle.cl_tree.specs.declared.tree.Expr.{Expr}
use Rattle.cl_tree.specs.declared.tree.Node.{Node, Node-F, out-Node}
use Rattle.cl_tree.specs.declared.tree.Node.TheOpen as node
use Rattle.cl_tree.specs.Arithmetic.{value, apply, apply_one, letter_value, is_zero, truth, promoted, common}
use Rattle.cl_tree.specs.Words.{Word}
use Rattle.cl_mean.specs.Value.{Labelled, bare, Value, number, part, is_part}
use Rattle.cl_mean.specs.Shape.{Shape, nothing, integer, struct, array, kind_in, part_in, size_in, member_index, is_type, shape_of}
use Rattle.cl_mean.specs.State.{Place, deeper, get_byte}
use Rattle.cl_mean.specs.Course.{Stop, traps, meaningless, Computation, pure, halted, trapped, lifted, the_number, fetched, within, ◌>>=◌}
use Rattle.cl_mean.specs.Source.{Binding, Env, binding_of, Parameter, Definition, Source, function_named}
use Rattle.cl_mean.specs.Evaluation.{Spot, given, lent, Calls, Scope, Meaning, computed, read_at, placed, the_spot, spot_of, kind_of, integer_of, as_kind, operand, in_type, is_true, applied, working_kind, right_kind, given_kind, decided, logical, worked, binary, senseless, kind_by, worked_one, unary, cast_to, choice, is_inside, index_of, picked, element_of, of_array, member_of, member_named, root_spot, variable, variable_of, argument, arguments, call_of, next_byte, reading, call_named, node_meaning, meaning_of}
use Rattle.mean_laws.proofs.Alike.{Family, IsOwn, Num, Same, each_same, part_same, is_part_same, Alike, alike_pure, alike_halt, alike_then, alike_if, alike_number, Respects, Spots, Args1, Args, Bound, MaybeBound, Envs, bound_if, MaybeKnown, CallsAlike}
use Rattle.mean_laws.proofs.Induction.{Each, Parts, expr_induction, meant, meaning_is}

pub two_same : {A B C : Type 0} (f : A → B → C) (a a' : A) (b b' : B) → a ≡ a' → b ≡ b' → f a b ≡ f a' b'
two_same f a a' b b' e e' = cc

module _ (F : Family) (At : Place → Place → Type 0) (source : Source) (Known : Definition → Type 0) (named : (name : Word) → MaybeKnown Known (function_named source.functions name)) (here : Definition) (calls : Calls) (calls' : Calls) (c : Respects F At here.level) (hc : CallsAlike F At Known here calls calls') where
  abbrev pub sx : Scope
  sx = record { source = source; calls = calls; here = here }

  abbrev pub sy : Scope
  sy = record { source = source; calls = calls'; here = here }

  abbrev pub Like : {A B : Type 0} → (A → B → Type 0) → Computation A → Computation B → Type 0
  Like P m n = Alike F P m n

  pub pure_like : {A B : Type 0} (P : A → B → Type 0) (a : A) (b : B) → P a b → Like P (pure a) (pure b)
  pure_like P a b p = alike_pure F P a b p

  pub then_like : {A B C D : Type 0} (P : A → B → Type 0) (Q : C → D → Type 0) (m : Computation A) (n : Computation B) (f : A → Computation C) (g : B → Computation D) → Like P m n → ((a : A) (b : B) → P a b → Like Q (f a) (g b)) → Like Q (m >>= f) (n >>= g)
  then_like P Q m n f g hm hf = alike_then F P Q m n f g hm hf

  pub if_like : {A B : Type 0} (P : A → B → Type 0) (b d : Bool) (m m' : Computation A) (n n' : Computation B) → b ≡ d → Like P m n → Like P m' n' → Like P (if b then m else m') (if d then n else n')
  if_like P b d m m' n n' e h k = subst (λ (z : Bool). Like P (if b then m else m') (if z then n else n')) e (alike_if F P b m m' n n' h k)

  pub trap_like : {A B : Type 0} (P : A → B → Type 0) (cause : TrapCause) (line : ℕ) → Like P (trapped here.level cause line) (trapped here.level cause line)
  trap_like P cause line = alike_halt F P (traps here.level (record { cause = cause; line = line })) tt

  pub halt_like : {A B : Type 0} (P : A → B → Type 0) (stop : Stop) → IsOwn stop → Like P (halted stop) (halted stop)
  halt_like P stop o = alike_halt F P stop o

  -- ---- what expressions mean

  abbrev pub SpotsAlike : Option (Computation Spot) → Option (Computation Spot) → Type 0
  SpotsAlike None None = Unit {0}
  SpotsAlike None (Some n) = ⊥
  SpotsAlike (Some m) None = ⊥
  SpotsAlike (Some m) (Some n) = Like (Spots At) m n

  abbrev pub Means : Meaning → Meaning → Type 0
  Means m n = (m.shape ≡ n.shape) × SpotsAlike m.spot n.spot × Like Same m.value n.value

  abbrev pub MeansAll : List Meaning → List Meaning → Type 0
  MeansAll [] [] = Unit {0}
  MeansAll [] (n ∷ ns) = ⊥
  MeansAll (m ∷ ms) [] = ⊥
  MeansAll (m ∷ ms) (n ∷ ns) = Means m n × MeansAll ms ns

  pub means_if : (b d : Bool) (m m' : Meaning) (n n' : Meaning) → b ≡ d → Means m n → Means m' n' → Means (if b then m else m') (if d then n else n')
  means_if b d m m' n n' e h k = subst (λ (z : Bool). Means (if b then m else m') (if z then n else n')) e (one b)
    where
      one : (z : Bool) → Means (if z then m else m') (if z then n else n')
      one true = h
      one false = k

  pub integer_like : (m : Meaning) (n : Meaning) → Means m n → Like Num (integer_of m) (integer_of n)
  integer_like m n h = then_like Same Num m.value n.value the_number the_number h.2 (alike_number F)

  pub kind_like : (m : Meaning) (n : Meaning) → Means m n → kind_of m ≡ kind_of n
  kind_like m n h = ap kind_in h.0

  pub operand_like : (k k' : IntKind) (m : Meaning) (n : Meaning) → k ≡ k' → Means m n → Like Num (operand k m) (operand k' n)
  operand_like k k' m n e h =
      then_like Num Num (integer_of m) (integer_of n) _ _ (integer_like m n h) (λ x y p. pure_like Num (as_kind k x) (as_kind k' y) (two_same value k k' x.number y.number e p))

  pub type_like : (k : Shape) (m : Meaning) (n : Meaning) → Means m n → Like Same (in_type k m) (in_type k n)
  type_like nothing m n h = halt_like Same meaningless tt
  type_like (integer kind) m n h = then_like Num Same (operand kind m) (operand kind n) _ _ (operand_like kind kind m n refl h) (λ x y p. pure_like Same (number x) (number y) p)
  type_like (struct ms) m n h = if_like Same (is_type (struct ms) m.shape) (is_type (struct ms) n.shape) _ _ _ _ (ap (λ (z : Shape). is_type (struct ms) z) h.0) h.2 (halt_like Same meaningless tt)
  type_like (array element size) m n h = halt_like Same meaningless tt

  pub computed_like : (k k' : IntKind) (x : Computation Labelled) (y : Computation Labelled) → k ≡ k' → Like Num x y → Means (computed k x) (computed k' y)
  computed_like k k' x y e h = (ap (λ (z : IntKind). integer z) e, tt, then_like Num Same x y _ _ h (λ a b p. pure_like Same (number a) (number b) p))

  lifted_self : (line : ℕ) (r : Result ℤ TrapCause) → Like (λ (a b : ℤ). a ≡ b) (lifted here.level line r) (lifted here.level line r)
  lifted_self line (Ok n) = pure_like (λ (a b : ℤ). a ≡ b) n n refl
  lifted_self line (Err cause) = trap_like (λ (a b : ℤ). a ≡ b) cause line

  pub lifted_like : (line : ℕ) (r q : Result ℤ TrapCause) → r ≡ q → Like (λ (a b : ℤ). a ≡ b) (lifted here.level line r) (lifted here.level line q)
  lifted_like line r q e = subst (λ (z : Result ℤ TrapCause). Like (λ (a b : ℤ). a ≡ b) (lifted here.level line r) (lifted here.level line z)) e (lifted_self line r)

  apply_same : (op : BinOp) (k k' : IntKind) (a a' b b' : ℤ) → k ≡ k' → a ≡ a' → b ≡ b' → apply op k a b ≡ apply op k' a' b'
  apply_same op k k' a a' b b' e p q = cc

  pub applied_like : (line : ℕ) (op : BinOp) (k k' : IntKind) (x y x' y' : Labelled) → k ≡ k' → Num x x' → Num y y' → Like Num (applied here.level line op k x y) (applied here.level line op k' x' y')
  applied_like line op k k' x y x' y' e p q =
      then_like (λ (a b : ℤ). a ≡ b) Num (lifted here.level line (apply op k x.number y.number)) (lifted here.level line (apply op k' x'.number y'.number)) _ _
      (lifted_like line _ _ (apply_same op k k' x.number x'.number y.number y'.number e p q)) (λ a b s. alike_pure F _ _ _ (s))

  decided_like : (d : Bool) (b : Meaning) (b' : Meaning) → Means b b' → (x y : Labelled) → Num x y → Like Num (decided d b x) (decided d b' y)
  decided_like d b b' h x y p =
      if_like Num (if is_true x then d else not d) (if is_true y then d else not d) _ _ _ _ (ap (λ (n : ℤ). if not (is_zero n) then d else not d) p)
      (alike_pure F _ _ _ (refl))
      (then_like Num Num (integer_of b) (integer_of b') _ _ (integer_like b b' h) (λ u v q. alike_pure F _ _ _ ((ap (λ (n : ℤ). truth (not (is_zero n))) q))))

  logical_like : (d : Bool) (a b : Meaning) (a' b' : Meaning) → Means a a' → Means b b' → Like Num (logical d a b) (logical d a' b')
  logical_like d a b a' b' h k = then_like Num Num (integer_of a) (integer_of a') (decided d b) (decided d b') (integer_like a a' h) (decided_like d b b' k)

  worked_like : (op : BinOp) (line : ℕ) (a b : Meaning) (a' b' : Meaning) → Means a a' → Means b b' → Means (worked here.level op line a b) (worked here.level op line a' b')
  worked_like op line a b a' b' h k =
      let w : working_kind op (kind_of a) (kind_of b) ≡ working_kind op (kind_of a') (kind_of b') = two_same (working_kind op) (kind_of a) (kind_of a') (kind_of b) (kind_of b') (kind_like a a' h) (kind_like b b' k) in
      let r : right_kind op (kind_of a) (kind_of b) ≡ right_kind op (kind_of a') (kind_of b') = two_same (right_kind op) (kind_of a) (kind_of a') (kind_of b) (kind_of b') (kind_like a a' h) (kind_like b b' k) in
      computed_like _ _ _ _ (ap (given_kind op) w)
      (then_like Num Num (operand (working_kind op (kind_of a) (kind_of b)) a) (operand (working_kind op (kind_of a') (kind_of b')) a') _ _ (operand_like _ _ a a' w h) (λ x x' p.
      then_like Num Num (operand (right_kind op (kind_of a) (kind_of b)) b) (operand (right_kind op (kind_of a') (kind_of b')) b') _ _ (operand_like _ _ b b' r k) (λ y y' q.
      applied_like line op _ _ x y x' y' w p q)))

  binary_like : (op : BinOp) (line : ℕ) (a b : Meaning) (a' b' : Meaning) → Means a a' → Means b b' → Means (binary here.level op line a b) (binary here.level op line a' b')
  binary_like Or line a b a' b' h k = computed_like I32 I32 _ _ refl (logical_like true a b a' b' h k)
  binary_like And line a b a' b' h k = computed_like I32 I32 _ _ refl (logical_like false a b a' b' h k)
  binary_like op line a b a' b' h k = worked_like op line a b a' b' h k

  senseless_like : Means senseless senseless
  senseless_like = computed_like I32 I32 (halted meaningless) (halted meaningless) refl (halt_like Num meaningless tt)

  worked_one_like : (op : UnOp) (line : ℕ) (a : Meaning) (a' : Meaning) → Means a a' → Means (worked_one here.level op line a) (worked_one here.level op line a')
  worked_one_like op line a a' h =
      let e : promoted (kind_of a) ≡ promoted (kind_of a') = ap promoted (kind_like a a' h) in
      computed_like _ _ _ _ (ap (kind_by op) e)
      (then_like Num Num (operand (promoted (kind_of a)) a) (operand (promoted (kind_of a')) a') _ _ (operand_like _ _ a a' e h) (λ x y p.
      then_like (λ (m n : ℤ). m ≡ n) Num (lifted here.level line (apply_one op (promoted (kind_of a)) x.number)) (lifted here.level line (apply_one op (promoted (kind_of a')) y.number)) _ _
      (lifted_like line _ _ (two_same (apply_one op) (promoted (kind_of a)) (promoted (kind_of a')) x.number y.number e p)) (λ m n s. alike_pure F _ _ _ (s))))

  unary_like : (op : UnOp) (line : ℕ) (a : Meaning) (a' : Meaning) → Means a a' → Means (unary here.level op line a) (unary here.level op line a')
  unary_like Star line a a' h = senseless_like
  unary_like Amp line a a' h = senseless_like
  unary_like op line a a' h = worked_one_like op line a a' h

  cast_like : (k : Shape) (a : Meaning) (a' : Meaning) → Means a a' → Means (cast_to k a) (cast_to k a')
  cast_like nothing a a' h = senseless_like
  cast_like (integer kind) a a' h = computed_like kind kind _ _ refl (operand_like kind kind a a' refl h)
  cast_like (struct ms) a a' h = senseless_like
  cast_like (array element size) a a' h = senseless_like

  pub true_same : (x y : Labelled) → Num x y → is_true x ≡ is_true y
  true_same x y p = ap (λ (n : ℤ). not (is_zero n)) p

  choice_like : (t a b : Meaning) (t' a' b' : Meaning) → Means t t' → Means a a' → Means b b' → Means (choice t a b) (choice t' a' b')
  choice_like t a b t' a' b' g h k =
      let e : common (kind_of a) (kind_of b) ≡ common (kind_of a') (kind_of b') = two_same common (kind_of a) (kind_of a') (kind_of b) (kind_of b') (kind_like a a' h) (kind_like b b' k) in
      computed_like _ _ _ _ e (then_like Num Num (integer_of t) (integer_of t') _ _ (integer_like t t' g) (λ x y p.
      then_like Num Num (operand (common (kind_of a) (kind_of b)) (if is_true x then a else b)) (operand (common (kind_of a') (kind_of b')) (if is_true y then a' else b')) _ _
      (operand_like _ _ _ _ e (means_if (is_true x) (is_true y) a b a' b' (true_same x y p) h k)) (λ u v q. alike_pure F _ _ _ (q))))

  -- ---- places

  pub read_like : (u v : Spot) → Spots At u v → Like Same (read_at u) (read_at v)
  read_like u v q = then_like Same Same (fetched u.place) (fetched v.place) _ _ (c.fetches u.place v.place q.0) (λ x y s. alike_pure F _ _ _ ((each_same _ _ (λ a b p. p) x y s)))

  placed_like : (k k' : Shape) (m : Computation Spot) (n : Computation Spot) → k ≡ k' → Like (Spots At) m n → Means (placed k m) (placed k' n)
  placed_like k k' m n e h = (e, h, then_like (Spots At) Same m n read_at read_at h read_like)

  the_spot_like : (m : Option (Computation Spot)) (n : Option (Computation Spot)) → SpotsAlike m n → Like (Spots At) (the_spot m) (the_spot n)
  the_spot_like None None h = halt_like (Spots At) meaningless tt
  the_spot_like None (Some n) h = absurd h
  the_spot_like (Some m) None h = absurd h
  the_spot_like (Some m) (Some n) h = h

  pub spot_like : (m : Meaning) (n : Meaning) → Means m n → Like (Spots At) (spot_of m) (spot_of n)
  spot_like m n h = the_spot_like m.spot n.spot h.1

  index_like : (line : ℕ) (size size' : ℕ) (m : Meaning) (n : Meaning) → size ≡ size' → Means m n → Like Num (index_of here.level line size m) (index_of here.level line size' n)
  index_like line size size' m n e h =
      then_like Num Num (integer_of m) (integer_of n) _ _ (integer_like m n h) (λ x y p.
      if_like Num (is_inside size x.number) (is_inside size' y.number) _ _ _ _ (two_same is_inside size size' x.number y.number e p) (pure_like Num x y p) (trap_like Num Index line))

  deeper_like : (u v : Spot) (i j : ℕ) → Spots At u v → i ≡ j → At (deeper u.place i) (deeper v.place j)
  deeper_like u v i j q e = subst (λ (k : ℕ). At (deeper u.place i) (deeper v.place k)) e (c.deeper_at u.place v.place i q.0)

  -- a part of a value without a place
  picked_like : (i : ℕ) (v w : Value) → Same v w → Like Same (picked v i) (picked w i)
  picked_like i v w s = if_like Same (is_part v i) (is_part w i) _ _ _ _ (is_part_same i v w s) (pure_like Same (part v i) (part w i) (part_same i v w s)) (halt_like Same meaningless tt)

  picked_at : (i j : ℕ) (v w : Value) → i ≡ j → Same v w → Like Same (picked v i) (picked w j)
  picked_at i j v w e s = subst (λ (k : ℕ). Like Same (picked v i) (picked w k)) e (picked_like i v w s)

  element_like : (line : ℕ) (a b : Meaning) (a' b' : Meaning) → Means a a' → Means b b' → (m : Option (Computation Spot)) (n : Option (Computation Spot)) → SpotsAlike m n → Means (element_of here.level line a b m) (element_of here.level line a' b' n)
  element_like line a b a' b' h k None None s = (
    ap (λ (z : Shape). part_in z 0) h.0,
    tt,
    then_like Same Same a.value a'.value _ _ h.2 (λ v w q.
        then_like Num Same (index_of here.level line (size_in a.shape) b) (index_of here.level line (size_in a'.shape) b') _ _ (index_like line _ _ b b' (ap size_in h.0) k) (λ i j p.
        then_like Same Same (picked v (unsigned_abs i.number)) (picked w (unsigned_abs j.number)) _ _ (picked_at (unsigned_abs i.number) (unsigned_abs j.number) v w (ap (λ (z : ℤ). unsigned_abs z) p) q) (λ x y s'.
        alike_pure F _ _ _ ((each_same _ _ (λ x' y' r. r) x y s'))))),
  )
  element_like line a b a' b' h k None (Some n) s = absurd s
  element_like line a b a' b' h k (Some m) None s = absurd s
  element_like line a b a' b' h k (Some m) (Some n) s =
      placed_like _ _ _ _ (ap (λ (z : Shape). part_in z 0) h.0) (then_like (Spots At) (Spots At) m n _ _ s (λ u v q.
      then_like Num (Spots At) (index_of here.level line (size_in a.shape) b) (index_of here.level line (size_in a'.shape) b') _ _ (index_like line _ _ b b' (ap size_in h.0) k) (λ i j p.
      alike_pure F _ _ _ ((deeper_like u v (unsigned_abs i.number) (unsigned_abs j.number) q (ap (λ (z : ℤ). unsigned_abs z) p), q.1)))))

  member_like : (i j : ℕ) (a : Meaning) (a' : Meaning) → i ≡ j → Means a a' → (m : Option (Computation Spot)) (n : Option (Computation Spot)) → SpotsAlike m n → Means (member_of a i m) (member_of a' j n)
  member_like i j a a' e h None None s = (
    two_same part_in a.shape a'.shape i j h.0 e,
    tt,
    then_like Same Same a.value a'.value _ _ h.2 (λ v w q. picked_at i j v w e q),
  )
  member_like i j a a' e h None (Some n) s = absurd s
  member_like i j a a' e h (Some m) None s = absurd s
  member_like i j a a' e h (Some m) (Some n) s =
      placed_like _ _ _ _ (two_same part_in a.shape a'.shape i j h.0 e) (then_like (Spots At) (Spots At) m n _ _ s (λ u v q. alike_pure F _ _ _ ((deeper_like u v i j q e, q.1))))

  -- only an array is indexed, and only a struct has members
  array_like : (k k' : Shape) (m : Meaning) (n : Meaning) → k ≡ k' → Means m n → Means (of_array k m) (of_array k' n)
  array_like k k' m n e h = subst (λ (z : Shape). Means (of_array k m) (of_array z n)) e (one k)
    where
      one : (z : Shape) → Means (of_array z m) (of_array z n)
      one (array element size) = h
      one nothing = senseless_like
      one (integer kind) = senseless_like
      one (struct ms) = senseless_like

  named_member_like : (k k' : Shape) (a : Meaning) (a' : Meaning) (name : Word) → k ≡ k' → Means a a' → Means (member_named k a name) (member_named k' a' name)
  named_member_like k k' a a' name e h = subst (λ (z : Shape). Means (member_named k a name) (member_named z a' name)) e (one k)
    where
      one : (z : Shape) → Means (member_named z a name) (member_named z a' name)
      one (struct ms) = member_like (member_index ms name) (member_index ms name) a a' refl h a.spot a'.spot h.1
      one nothing = senseless_like
      one (integer kind) = senseless_like
      one (array element size) = senseless_like

  variable_like : (a b : Binding) → Bound At a b → Means (variable a) (variable b)
  variable_like a b h = placed_like a.shape b.shape (pure (root_spot a)) (pure (root_spot b)) h.1 (alike_pure F _ _ _ ((h.2, h.3)))

  named_like : (a b : Option Binding) → MaybeBound At a b → Means (variable_of a) (variable_of b)
  named_like None None h = senseless_like
  named_like None (Some b) h = absurd h
  named_like (Some a) None h = absurd h
  named_like (Some a) (Some b) h = variable_like a b h

  pub binding_like : (e e' : Env) (name : Word) → Envs At e e' → MaybeBound At (binding_of e name) (binding_of e' name)
  unfolding binding_of
  binding_like [] [] name h = tt
  binding_like [] (b ∷ e') name h = absurd h
  binding_like (a ∷ e) [] name h = absurd h
  binding_like (a ∷ e) (b ∷ e') name h =
      subst (λ (z : Word). MaybeBound At (if bytes_eq a.name name then Some a else binding_of e name) (if bytes_eq z name then Some b else binding_of e' name)) h.0.0
      (bound_if At (bytes_eq a.name name) (Some a) (Some b) _ _ h.0 (binding_like e e' name h.1))

  -- ---- calls

  given_like : (k : Shape) (m : Meaning) (n : Meaning) → Means m n → Like (Args1 At) (in_type k m >>= λ v. pure (given v)) (in_type k n >>= λ v. pure (given v))
  given_like k m n h = then_like Same (Args1 At) (in_type k m) (in_type k n) _ _ (type_like k m n h) (λ v w s. pure_like (Args1 At) (given v) (given w) s)

  argument_like : (k : Shape) (m : Meaning) (n : Meaning) → Means m n → Like (Args1 At) (argument k m) (argument k n)
  argument_like (array element size) m n h =
      if_like (Args1 At) (is_type (array element size) m.shape) (is_type (array element size) n.shape) _ _ _ _ (ap (λ (z : Shape). is_type (array element size) z) h.0)
      (then_like (Spots At) (Args1 At) (spot_of m) (spot_of n) _ _ (spot_like m n h) (λ u v q. pure_like (Args1 At) (lent u) (lent v) q)) (halt_like (Args1 At) meaningless tt)
  argument_like nothing m n h = given_like nothing m n h
  argument_like (integer kind) m n h = given_like (integer kind) m n h
  argument_like (struct ms) m n h = given_like (struct ms) m n h

  arguments_like : (ps : List Parameter) (ms : List Meaning) (ns : List Meaning) → MeansAll ms ns → Like (Args At) (arguments ps ms) (arguments ps ns)
  arguments_like [] [] [] h = pure_like (Args At) [] [] tt
  arguments_like [] [] (n ∷ ns) h = absurd h
  arguments_like [] (m ∷ ms) [] h = absurd h
  arguments_like [] (m ∷ ms) (n ∷ ns) h = halt_like (Args At) meaningless tt
  arguments_like (p ∷ ps) [] [] h = halt_like (Args At) meaningless tt
  arguments_like (p ∷ ps) [] (n ∷ ns) h = absurd h
  arguments_like (p ∷ ps) (m ∷ ms) [] h = absurd h
  arguments_like (p ∷ ps) (m ∷ ms) (n ∷ ns) h =
      then_like (Args1 At) (Args At) (argument p.shape m) (argument p.shape n) _ _ (argument_like p.shape m n h.0) (λ a b q.
      then_like (Args At) (Args At) (arguments ps ms) (arguments ps ns) _ _ (arguments_like ps ms ns h.1) (λ xs ys r. pure_like (Args At) (a ∷ xs) (b ∷ ys) (q, r)))

  call_like : (line : ℕ) (o : Option Definition) → MaybeKnown Known o → (ms : List Meaning) (ns : List Meaning) → MeansAll ms ns → Means (call_of sx line ms o) (call_of sy line ns o)
  call_like line None kn ms ns h = senseless_like
  call_like line (Some d) kn ms ns h = (refl, tt, then_like (Args At) Same (arguments d.params ms) (arguments d.params ns) _ _ (arguments_like d.params ms ns h) (λ xs ys q. hc line d kn xs ys q))

  next_like : Like Num (next_byte here.level) (next_byte here.level)
  next_like = then_like (λ (a b : ℤ). a ≡ b) Num (within here.level 0 get_byte) (within here.level 0 get_byte) _ _ c.gets (λ a b p. alike_pure F _ _ _ (p))

  reading_like : (ms : List Meaning) (ns : List Meaning) → MeansAll ms ns → Means (reading here.level ms) (reading here.level ns)
  reading_like [] [] h = computed_like I32 I32 _ _ refl next_like
  reading_like [] (n ∷ ns) h = absurd h
  reading_like (m ∷ ms) [] h = absurd h
  reading_like (m ∷ ms) (n ∷ ns) h = senseless_like

  call_named_like : (line : ℕ) (name : Word) (ms : List Meaning) (ns : List Meaning) → MeansAll ms ns → Means (call_named sx line name ms) (call_named sy line name ns)
  call_named_like line name ms ns h =
      means_if (bytes_eq name (codes "getchar")) (bytes_eq name (codes "getchar")) _ _ _ _ refl (reading_like ms ns h) (call_like line (function_named source.functions name) (named name) ms ns h)

  -- ---- the induction

  abbrev pub Agrees : Env → Env → Expr → Type 0
  Agrees e e' x = Means (meaning_of sx e x) (meaning_of sy e' x)

  all_mean : (e e' : Env) (xs : List Expr) → Each (Agrees e e') xs → MeansAll (map (meaning_of sx e) xs) (map (meaning_of sy e') xs)
  all_mean e e' [] h = tt
  all_mean e e' (x ∷ xs) h = (h.0, all_mean e e' xs h.1)

  node_like : (e e' : Env) → Envs At e e' → (x : Node-F Node Expr) → Parts (Agrees e e') x → (line second : ℕ) → Means (node_meaning sx e (meant sx e x) line second) (node_meaning sy e' (meant sy e' x) line second)
  node_like e e' g (node.Number n kind) h line second = computed_like kind kind (pure (bare (value kind (pos n)))) (pure (bare (value kind (pos n)))) refl (alike_pure F _ _ _ (refl))
  node_like e e' g node.Real h line second = senseless_like
  node_like e e' g (node.Letter b) h line second = computed_like I32 I32 (pure (bare (letter_value b))) (pure (bare (letter_value b))) refl (alike_pure F _ _ _ (refl))
  node_like e e' g (node.Text bs) h line second = senseless_like
  node_like e e' g (node.Variable name) h line second = named_like _ _ (binding_like e e' name g)
  node_like e e' g (node.Unary op a) h line second = unary_like op line _ _ h
  node_like e e' g (node.Binary op a b) h line second = binary_like op second _ _ _ _ h.0 h.1
  node_like e e' g (node.Choice t a b) h line second = choice_like _ _ _ _ _ _ h.0 h.1 h.2
  node_like e e' g (node.Cast t a) h line second = cast_like (shape_of source.structs t) _ _ h
  node_like e e' g (node.Call name xs) h line second = call_named_like line name _ _ (all_mean e e' xs h)
  node_like e e' g (node.Index a b) h line second = array_like _ _ _ _ h.0.0 (element_like second _ _ _ _ h.0 h.1 _ _ h.0.1)
  node_like e e' g (node.Member a name) h line second = named_member_like _ _ _ _ name h.0 h
  node_like e e' g (node.Arrow a name) h line second = senseless_like
  node_like e e' g (node.Paren a) h line second = h

  -- An expression means the same in both runs.
  pub expression_like : (e e' : Env) → Envs At e e' → (x : Expr) → Agrees e e' x
  expression_like e e' g = expr_induction (Agrees e e') (λ x h.
      subst (λ (m : Meaning). Means m (meaning_of sy e' x)) (sym (meaning_is sx e x))
      (subst (λ (n : Meaning). Means (node_meaning sx e (meant sx e (out-Node x.node)) x.line x.second) n) (sym (meaning_is sy e' x))
      (node_like e e' g (out-Node x.node) h x.line x.second)))
