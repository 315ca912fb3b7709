-- What a far call does is alike in two runs, where the deeds of the caller's level are: it asks the same, and goes on the same.
use Rattle.std.proofs.Common.{◌≡◌, ℕ, zero, suc, ◌==◌, List, [], ◌∷◌, ◌++◌, length, refl, subst, sym, if◌then◌else◌, Option, Some, None}
use Rattle.cl_mean.specs.declared.labels.Entry.{Entry}
use Rattle.cl_mean.specs.Value.{Labelled, Value, Values, number, parts, no_more, ◌then◌, leaves, all_leaves, carries_too}
use Rattle.cl_mean.specs.Shape.{Shape, nothing, integer, struct, array, Members, no_members, member, zero_of, value_from, values_from, elements_from, ValueFrom, integer_from, count_of}
use Rattle.cl_mean.specs.State.{Place}
use Rattle.cl_mean.specs.Source.{Parameter, Definition, Source, row_of, request_of, reply_of}
use Rattle.cl_mean.specs.Course.{Ask, Computation, meaningless, pure, halted, stored, made, asking, ◌>>=◌, ◌>>◌}
use Rattle.cl_mean.specs.Evaluation.{Spot, Argument, given, lent, read_at}
use Rattle.cl_mean.specs.Calls.{paid, cost_of, by_row, by_entry, by_both, request_values, arrays_taken, reply_taken, went_on, ask_of, far, LocalCall, fresh, all_fresh, array_values, served}
use Rattle.cl_mean.specs.Judging.{entry_for}
use Rattle.mean_laws.proofs.Alike.{Family, alike_pure, alike_halt, Nums, nums_length, Replies, Asks, Same, SameAll, same_refl, each_same, Any, Alike, alike_then, alike_if, Respects, Spots, Args1, Args}

-- ---- lists of numbers

pub nums_app : (xs ys xs' ys' : List Labelled) → Nums xs ys → Nums xs' ys' → Nums (xs ++ xs') (ys ++ ys')
nums_app [] [] xs' ys' h k = k
nums_app [] (y ∷ ys) xs' ys' h k = absurd h
nums_app (x ∷ xs) [] xs' ys' h k = absurd h
nums_app (x ∷ xs) (y ∷ ys) xs' ys' h k = (h.0, nums_app xs ys xs' ys' h.1 k)

mutual
  pub leaves_same : (v w : Value) → Same v w → Nums (leaves v) (leaves w)
  leaves_same (number x) (number y) h = (h, tt)
  leaves_same (number x) (parts ws) h = absurd h
  leaves_same (parts vs) (number y) h = absurd h
  leaves_same (parts vs) (parts ws) h = all_leaves_same vs ws h

  all_leaves_same : (vs ws : Values) → SameAll vs ws → Nums (all_leaves vs) (all_leaves ws)
  all_leaves_same no_more no_more h = tt
  all_leaves_same no_more (w then ws) h = absurd h
  all_leaves_same (v then vs) no_more h = absurd h
  all_leaves_same (v then vs) (w then ws) h = nums_app (leaves v) (leaves w) (all_leaves vs) (all_leaves ws) (leaves_same v w h.0) (all_leaves_same vs ws h.1)

pub nums_refl : (xs : List Labelled) → Nums xs xs
nums_refl [] = tt
nums_refl (x ∷ xs) = (refl, nums_refl xs)

-- ---- values taken from numbers

abbrev pub TakenV : Value × List Labelled → Value × List Labelled → Type 0
TakenV a b = Same a.0 b.0 × Nums a.1 b.1

abbrev pub TakenVs : Values × List Labelled → Values × List Labelled → Type 0
TakenVs a b = SameAll a.0 b.0 × Nums a.1 b.1

times_same : (n : ℕ) (f : ValueFrom) → ((xs ys : List Labelled) → Nums xs ys → TakenV (f xs) (f ys)) → (xs ys : List Labelled) → Nums xs ys → TakenVs (elements_from n f xs) (elements_from n f ys)
times_same zero f h xs ys k = (tt, k)
times_same (suc n) f h xs ys k =
    let a : TakenV (f xs) (f ys) = h xs ys k in
    let b : TakenVs (elements_from n f (f xs).1) (elements_from n f (f ys).1) = times_same n f h (f xs).1 (f ys).1 a.1 in
    ((a.0, b.0), b.1)

first_same : (xs ys : List Labelled) → Nums xs ys → TakenV (integer_from xs) (integer_from ys)
first_same [] [] h = (refl, tt)
first_same [] (y ∷ ys) h = absurd h
first_same (x ∷ xs) [] h = absurd h
first_same (x ∷ xs) (y ∷ ys) h = (h.0, h.1)

mutual
  pub taken_same : (s : Shape) (xs ys : List Labelled) → Nums xs ys → TakenV (value_from s xs) (value_from s ys)
  taken_same nothing xs ys h = (tt, h)
  taken_same (integer kind) xs ys h = first_same xs ys h
  taken_same (struct ms) xs ys h = members_same ms xs ys h
  taken_same (array element size) xs ys h = times_same size (value_from element) (taken_same element) xs ys h

  members_same : (ms : Members) (xs ys : List Labelled) → Nums xs ys → TakenVs (values_from ms xs) (values_from ms ys)
  members_same no_members xs ys h = (tt, h)
  members_same (member name s ms) xs ys h =
      let a : TakenV (value_from s xs) (value_from s ys) = taken_same s xs ys h in
      let b : TakenVs (values_from ms (value_from s xs).1) (values_from ms (value_from s ys).1) = members_same ms (value_from s xs).1 (value_from s ys).1 a.1 in
      ((a.0, b.0), b.1)

-- ---- the call

-- what a far call does from a level, by its row and its entry
abbrev pub asked_at : ℕ → ℕ → Definition → List Argument → ℕ → Entry → Computation Value
asked_at l line d args row entry = paid l line d >> request_values args >>= λ xs. asking (ask_of l row d entry xs) >>= went_on d args

-- a call between levels, by its row and its entry
module _ (F : Family) (source : Source) (level : ℕ) (d : Definition) where
  entry_like : (o : Option Entry) (f g : Entry → Computation Value) → ((entry : Entry) → Alike F Same (f entry) (g entry)) → Alike F Same (by_entry o f) (by_entry o g)
  entry_like None f g h = alike_halt F Same meaningless tt
  entry_like (Some entry) f g h = h entry

  row_like : (o : Option ℕ) (f g : ℕ → Computation Value) → ((row : ℕ) → Alike F Same (f row) (g row)) → Alike F Same (by_row o f) (by_row o g)
  row_like None f g h = alike_halt F Same meaningless tt
  row_like (Some row) f g h = h row

  pub both_like : (f g : ℕ → Entry → Computation Value) → ((row : ℕ) (entry : Entry) → Alike F Same (f row entry) (g row entry)) → Alike F Same (by_both source level d f) (by_both source level d g)
  both_like f g h = row_like (row_of source level d) _ _ (λ row. entry_like (entry_for d.entries level) (f row) (g row) (h row))

module _ (F : Family) (At : Place → Place → Type 0) (source : Source) (level : ℕ) (c : Respects F At level) (ask_like : (a b : Ask) → Asks a b → F.Like Replies (asking a) (asking b)) where
  abbrev pub Like : {A B : Type 0} → (A → B → Type 0) → Computation A → Computation B → Type 0
  Like P m n = Alike F P m n

  then_like : {A B C D : Type 0} (P : A → B → Type 0) (Q : C → D → Type 0) (m : Computation A) (n : Computation B) (f : A → Computation C) (g : B → Computation D) → Like P m n → ((a : A) (b : B) → P a b → Like Q (f a) (g b)) → Like Q (m >>= f) (n >>= g)
  then_like P Q m n f g hm hf = alike_then F P Q m n f g hm hf

  next_like : {A B C D : Type 0} (P : A → B → Type 0) (Q : C → D → Type 0) (m : Computation A) (n : Computation B) (f : Computation C) (g : Computation D) → Like P m n → Like Q f g → Like Q (m >> f) (n >> g)
  next_like P Q m n f g hm hf = then_like P Q m n (λ _. f) (λ _. g) hm (λ a b p. hf)

  -- where there are so many integers
  counted_like : {A B : Type 0} (P : A → B → Type 0) (count : ℕ) (xs ys : List Labelled) → Nums xs ys → (m : Computation A) (n : Computation B) → Like P m n
      → Like P (if length xs == count then m else halted meaningless) (if length ys == count then n else halted meaningless)
  counted_like P count xs ys k m n h =
      subst (λ (z : ℕ). Like P (if length xs == count then m else halted meaningless) (if z == count then n else halted meaningless)) (nums_length xs ys k)
      (alike_if F P (length xs == count) m (halted meaningless) n (halted meaningless) h (alike_halt F P meaningless tt))

  read_like : (u v : Spot) → Spots At u v → Like Same (read_at u) (read_at v)
  read_like u v q = then_like Same Same _ _ _ _ (c.fetches u.place v.place q.0) (λ x y s. alike_pure F _ _ _ (each_same (carries_too u.labels) (carries_too v.labels) (λ a b p. p) x y s))

  request_like : (xs ys : List Argument) → Args At xs ys → Like Nums (request_values xs) (request_values ys)
  request_like [] [] h = alike_pure F _ _ _ (tt)
  request_like [] (b ∷ ys) h = absurd h
  request_like (a ∷ xs) [] h = absurd h
  request_like (given v ∷ xs) (given w ∷ ys) h = then_like Nums Nums (request_values xs) (request_values ys) _ _ (request_like xs ys h.1) (λ a b p. alike_pure F _ _ _ (nums_app (leaves v) (leaves w) a b (leaves_same v w h.0) p))
  request_like (given v ∷ xs) (lent t ∷ ys) h = absurd h.0
  request_like (lent s ∷ xs) (given w ∷ ys) h = absurd h.0
  request_like (lent s ∷ xs) (lent t ∷ ys) h =
      then_like Same Nums (read_at s) (read_at t) _ _ (read_like s t h.0) (λ v w q.
      then_like Nums Nums (request_values xs) (request_values ys) _ _ (request_like xs ys h.1) (λ a b p. alike_pure F _ _ _ (nums_app (leaves v) (leaves w) a b (leaves_same v w q) p)))

  arrays_like : (ps : List Parameter) (xs ys : List Argument) → Args At xs ys → (as' bs : List Labelled) → Nums as' bs → Like Any (arrays_taken ps xs as') (arrays_taken ps ys bs)
  arrays_like [] [] [] h as' bs n = alike_pure F _ _ _ (tt)
  arrays_like [] [] (b ∷ ys) h as' bs n = absurd h
  arrays_like [] (a ∷ xs) [] h as' bs n = absurd h
  arrays_like [] (a ∷ xs) (b ∷ ys) h as' bs n = alike_halt F Any meaningless tt
  arrays_like (p ∷ ps) [] [] h as' bs n = alike_halt F Any meaningless tt
  arrays_like (p ∷ ps) [] (b ∷ ys) h as' bs n = absurd h
  arrays_like (p ∷ ps) (a ∷ xs) [] h as' bs n = absurd h
  arrays_like (p ∷ ps) (given v ∷ xs) (given w ∷ ys) h as' bs n = arrays_like ps xs ys h.1 as' bs n
  arrays_like (p ∷ ps) (given v ∷ xs) (lent t ∷ ys) h as' bs n = absurd h.0
  arrays_like (p ∷ ps) (lent s ∷ xs) (given w ∷ ys) h as' bs n = absurd h.0
  arrays_like (p ∷ ps) (lent s ∷ xs) (lent t ∷ ys) h as' bs n =
      let q : TakenV (value_from p.shape as') (value_from p.shape bs) = taken_same p.shape as' bs n in
      next_like Any Any (stored s.place (value_from p.shape as').0) (stored t.place (value_from p.shape bs).0) _ _ (c.stores s.place t.place _ _ h.0.0 q.0) (arrays_like ps xs ys h.1 (value_from p.shape as').1 (value_from p.shape bs).1 q.1)

  went_like : (d : Definition) (xs ys : List Argument) → Args At xs ys → (a b : Option (List Labelled)) → Replies a b → Like Same (went_on d xs a) (went_on d ys b)
  unfolding reply_taken
  went_like d xs ys h None None n = alike_pure F _ _ _ (same_refl (zero_of d.result))
  went_like d xs ys h None (Some bs) n = absurd n
  went_like d xs ys h (Some as') None n = absurd n
  went_like d xs ys h (Some as') (Some bs) n =
      let q : TakenV (value_from d.result as') (value_from d.result bs) = taken_same d.result as' bs n in
      counted_like Same (count_of (reply_of d)) as' bs n _ _
      (next_like Any Same (arrays_taken d.params xs (value_from d.result as').1) (arrays_taken d.params ys (value_from d.result bs).1) _ _ (arrays_like d.params xs ys h (value_from d.result as').1 (value_from d.result bs).1 q.1) (alike_pure F _ _ _ (q.0)))

  asked_like : (line : ℕ) (d : Definition) (xs ys : List Argument) → Args At xs ys → (row : ℕ) (entry : Entry) → Like Same (asked_at level line d xs row entry) (asked_at level line d ys row entry)
  asked_like line d xs ys h row entry =
      then_like Nums Same (paid level line d >> request_values xs) (paid level line d >> request_values ys) _ _
      (next_like Any Nums (paid level line d) (paid level line d) _ _ (c.pays line (cost_of d)) (request_like xs ys h))
      (λ a b n. then_like Replies Same (asking (ask_of level row d entry a)) (asking (ask_of level row d entry b)) _ _
      (ask_like _ _ (refl, refl, refl, refl, n))
      (went_like d xs ys h))

  -- A far call from the level, whatever the callee's local call is: it isn't looked at.
  pub far_like : (call call' : LocalCall) (here : Definition) (line : ℕ) (d : Definition) (xs ys : List Argument) → here.level ≡ level → Args At xs ys → Like Same (far source call here line d xs) (far source call' here line d ys)
  unfolding far
  far_like call call' here line d xs ys e h =
      subst (λ (l : ℕ). Like Same (by_both source l d (asked_at l line d xs)) (by_both source l d (asked_at l line d ys))) (sym e)
      (both_like F source level d (asked_at level line d xs) (asked_at level line d ys) (asked_like line d xs ys h))

  -- ---- serving

  fresh_like : (k : Shape) (v w : Value) → Same v w → Like (Args1 At) (fresh level k v) (fresh level k w)
  fresh_like (array element size) v w s = then_like At (Args1 At) (made level v) (made level w) _ _ (c.makes v w s) (λ p q a. alike_pure F _ _ _ ((a, refl)))
  fresh_like nothing v w s = alike_pure F _ _ _ (s)
  fresh_like (integer kind) v w s = alike_pure F _ _ _ (s)
  fresh_like (struct ms) v w s = alike_pure F _ _ _ (s)

  all_fresh_like : (ps : List Parameter) (xs ys : List Labelled) → Nums xs ys → Like (Args At) (all_fresh level ps xs) (all_fresh level ps ys)
  all_fresh_like [] xs ys n = alike_pure F _ _ _ (tt)
  all_fresh_like (p ∷ ps) xs ys n =
      let q : TakenV (value_from p.shape xs) (value_from p.shape ys) = taken_same p.shape xs ys n in
      then_like (Args1 At) (Args At) (fresh level p.shape (value_from p.shape xs).0) (fresh level p.shape (value_from p.shape ys).0) _ _ (fresh_like p.shape _ _ q.0) (λ a b h.
      then_like (Args At) (Args At) (all_fresh level ps (value_from p.shape xs).1) (all_fresh level ps (value_from p.shape ys).1) _ _ (all_fresh_like ps _ _ q.1) (λ as' bs k. alike_pure F _ _ _ ((h, k))))

  pub array_values_like : (xs ys : List Argument) → Args At xs ys → Like Nums (array_values xs) (array_values ys)
  array_values_like [] [] h = alike_pure F _ _ _ (tt)
  array_values_like [] (b ∷ ys) h = absurd h
  array_values_like (a ∷ xs) [] h = absurd h
  array_values_like (given v ∷ xs) (given w ∷ ys) h = array_values_like xs ys h.1
  array_values_like (given v ∷ xs) (lent t ∷ ys) h = absurd h.0
  array_values_like (lent s ∷ xs) (given w ∷ ys) h = absurd h.0
  array_values_like (lent s ∷ xs) (lent t ∷ ys) h =
      then_like Same Nums (read_at s) (read_at t) _ _ (read_like s t h.0) (λ v w q.
      then_like Nums Nums (array_values xs) (array_values ys) _ _ (array_values_like xs ys h.1) (λ a b p. alike_pure F _ _ _ (nums_app (leaves v) (leaves w) a b (leaves_same v w q) p)))

  -- The level serves a request, by a local call that is alike.
  pub served_like : (call call' : LocalCall) (d : Definition) → d.level ≡ level → ((xs ys : List Argument) → Args At xs ys → Like Same (call d xs) (call' d ys)) → (xs ys : List Labelled) → Nums xs ys → Like Nums (served call d xs) (served call' d ys)
  unfolding served
  served_like call call' d e hc xs ys n =
      subst (λ (l : ℕ). Like Nums (served_at call l xs) (served_at call' l ys)) (sym e)
      (counted_like Nums (count_of (request_of d)) xs ys n _ _
      (then_like (Args At) Nums (all_fresh level d.params xs) (all_fresh level d.params ys) _ _ (all_fresh_like d.params xs ys n) (λ as' bs h.
      then_like Same Nums (call d as') (call' d bs) _ _ (hc as' bs h) (λ v w s.
      then_like Nums Nums (array_values as') (array_values bs) _ _ (array_values_like as' bs h) (λ us zs p. alike_pure F _ _ _ (nums_app (leaves v) (leaves w) us zs (leaves_same v w s) p))))))
    where
      served_at : LocalCall → ℕ → List Labelled → Computation (List Labelled)
      served_at f l us =
          if length us == count_of (request_of d) then (all_fresh l d.params us >>= λ args. f d args >>= λ v. array_values args >>= λ zs. pure (leaves v ++ zs))
          else halted meaningless
