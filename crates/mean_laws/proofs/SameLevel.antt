-- Two runs in which one level is the same but for labels: the deeds of that level keep it so. This is the relation by which a
-- level's own run follows the run of the whole: its code asks the same and does the same, whatever the other levels are.
use Rattle.std.proofs.Common.{◌≡◌, ℕ, zero, suc, ◌+◌, ◌-◌, ◌<◌, ℤ, List, [], ◌∷◌, ◌++◌, length, refl, subst, sym, ap, Result, Ok, Err, Bool, true, false, if◌then◌else◌, get_or-set_same, length-set, ◌==◌, eqb-true, lt-ltb, inr, ◌∙◌}
use Rattle.std.specs.Prelude.{nat_lt, nat_le, slice_index_or, slice_set}
use Rattle.std.specs.List.{filter}
use Rattle.cl_mean.specs.Source.{Binding, Env, Source, known_at}
use Rattle.cl_base.specs.declared.limits.TheConstants.{OUTPUT_BYTES, ACTIVE_CALLS, FRAME_COST}
use Rattle.cl_tree.specs.declared.kinds.TrapCause.TheVariants.{Steps, Depth, Output, Frames}
use Rattle.cl_mean.specs.Value.{Value, Values, number, parts, no_more, ◌then◌, carries_too, part, with_part, with_nth, at_path, with_path, is_path}
use Rattle.cl_mean.specs.State.{Object, no_object, Written, LevelState, silent, State, Place, Fault, trap, no_such_object, Deed, level_in, with_level, object_in, fetch, store, make, put_byte, next_of, get_byte, count_step, begin_call, end_call, pay, deeper, is_there}
use Rattle.cl_mean.specs.Course.{Stop, meaningless, stops, stop_by, done, within, fetched, stored, made}
pub use Rattle.mean_laws.specs.Alike.{Objects, Agree, AtLevel}
use Rattle.mean_laws.proofs.Alike.{Family, alike_pure, alike_then, by_states, Same, each_same, part_same, both_same, is_path_same, SameAll, Any, Ends, Alike, Respects, Bound, Envs}
use Rattle.mean_laws.proofs.Statements.{Bytes1, BytesAll}

-- ---- values

with_nth_same : (i : ℕ) (vs ws : Values) (x y : Value) → SameAll vs ws → Same x y → SameAll (with_nth vs i x) (with_nth ws i y)
with_nth_same i no_more no_more x y h k = tt
with_nth_same i no_more (w then ws) x y h k = absurd h
with_nth_same i (v then vs) no_more x y h k = absurd h
with_nth_same zero (v then vs) (w then ws) x y h k = (k, h.1)
with_nth_same (suc i) (v then vs) (w then ws) x y h k = (h.0, with_nth_same i vs ws x y h.1 k)

with_part_same : (i : ℕ) (v w x y : Value) → Same v w → Same x y → Same (with_part v i x) (with_part w i y)
with_part_same i (number a) (number b) x y h k = h
with_part_same i (number a) (parts ws) x y h k = absurd h
with_part_same i (parts vs) (number b) x y h k = absurd h
with_part_same i (parts vs) (parts ws) x y h k = with_nth_same i vs ws x y h k

at_path_same : (path : List ℕ) (v w : Value) → Same v w → Same (at_path v path) (at_path w path)
at_path_same [] v w h = h
at_path_same (i ∷ path) v w h = at_path_same path (part v i) (part w i) (part_same i v w h)

with_path_same : (path : List ℕ) (v w x y : Value) → Same v w → Same x y → Same (with_path v path x) (with_path w path y)
with_path_same [] v w x y h k = k
with_path_same (i ∷ path) v w x y h k = with_part_same i v w _ _ h (with_path_same path (part v i) (part w i) x y (part_same i v w h) k)

-- ---- objects

object_same : (n : ℕ) (xs ys : List Object) → Objects xs ys → Same (slice_index_or xs n no_object).value (slice_index_or ys n no_object).value
object_same n [] [] h = tt
object_same n [] (y ∷ ys) h = absurd h
object_same n (x ∷ xs) [] h = absurd h
object_same zero (x ∷ xs) (y ∷ ys) h = h.0
object_same (suc n) (x ∷ xs) (y ∷ ys) h = object_same n xs ys h.1

objects_set : (n : ℕ) (xs ys : List Object) (x y : Object) → Objects xs ys → Same x.value y.value → Objects (slice_set xs n x) (slice_set ys n y)
objects_set n [] [] x y h k = tt
objects_set n [] (b ∷ ys) x y h k = absurd h
objects_set n (a ∷ xs) [] x y h k = absurd h
objects_set zero (a ∷ xs) (b ∷ ys) x y h k = (k, h.1)
objects_set (suc n) (a ∷ xs) (b ∷ ys) x y h k = (h.0, objects_set n xs ys x y h.1 k)

objects_more : (xs ys : List Object) (x y : Object) → Objects xs ys → Same x.value y.value → Objects (xs ++ x ∷ []) (ys ++ y ∷ [])
objects_more [] [] x y h k = (k, tt)
objects_more [] (b ∷ ys) x y h k = absurd h
objects_more (a ∷ xs) [] x y h k = absurd h
objects_more (a ∷ xs) (b ∷ ys) x y h k = (h.0, objects_more xs ys x y h.1 k)

objects_length : (xs ys : List Object) → Objects xs ys → length xs ≡ length ys
objects_length [] [] h = refl
objects_length [] (b ∷ ys) h = absurd h
objects_length (a ∷ xs) [] h = absurd h
objects_length (a ∷ xs) (b ∷ ys) h = ap suc (objects_length xs ys h.1)

bytes_more : (vs ws : List Written) (v w : Written) → BytesAll vs ws → Bytes1 v w → BytesAll (vs ++ v ∷ []) (ws ++ w ∷ [])
bytes_more [] [] v w h k = (k, tt)
bytes_more [] (b ∷ ws) v w h k = absurd h
bytes_more (a ∷ vs) [] v w h k = absurd h
bytes_more (a ∷ vs) (b ∷ ws) v w h k = (h.0, bytes_more vs ws v w h.1 k)

bytes_length : (vs ws : List Written) → BytesAll vs ws → length vs ≡ length ws
bytes_length [] [] h = refl
bytes_length [] (b ∷ ws) h = absurd h
bytes_length (a ∷ vs) [] h = absurd h
bytes_length (a ∷ vs) (b ∷ ws) h = ap suc (bytes_length vs ws h.1)

-- ---- levels

abbrev pub Ended : {A B : Type 0} → (A → B → Type 0) → Result (A × LevelState) Fault → Result (B × LevelState) Fault → Type 0
Ended P (Ok x) (Ok y) = P x.0 y.0 × Agree x.1 y.1
Ended P (Ok x) (Err d) = ⊥
Ended P (Err c) (Ok y) = ⊥
Ended P (Err c) (Err d) = c ≡ d

-- deeds that do the same
abbrev pub Deeds : {A B : Type 0} → (A → B → Type 0) → Deed A → Deed B → Type 0
Deeds P f g = (a b : LevelState) → Agree a b → Ended P (f a) (g b)

ended_if : {A B : Type 0} (P : A → B → Type 0) (c d : Bool) (cause : Fault) (x : A × LevelState) (y : B × LevelState) → c ≡ d → P x.0 y.0 → Agree x.1 y.1 → Ended P (if c then Ok x else Err cause) (if d then Ok y else Err cause)
ended_if P c d cause x y e p h = subst (λ (z : Bool). Ended P (if c then Ok x else Err cause) (if z then Ok y else Err cause)) e (one c)
  where
    one : (z : Bool) → Ended P (if z then Ok x else Err cause) (if z then Ok y else Err cause)
    one true = (p, h)
    one false = refl

there_same : (n : ℕ) (path : List ℕ) (a b : LevelState) → Agree a b → is_there a n path ≡ is_there b n path
there_same n path a b h =
    both_same (nat_lt n (length a.objects)) (nat_lt n (length b.objects)) (is_path (object_in a n).value path) (is_path (object_in b n).value path)
    (ap (λ (m : ℕ). nat_lt n m) (objects_length a.objects b.objects h.objects)) (is_path_same path _ _ (object_same n a.objects b.objects h.objects))

pub fetch_agrees : (n : ℕ) (path : List ℕ) → Deeds Same (fetch n path) (fetch n path)
unfolding fetch
fetch_agrees n path a b h =
    ended_if Same _ _ no_such_object _ _ (there_same n path a b h) (at_path_same path _ _ (object_same n a.objects b.objects h.objects)) h

pub store_agrees : (n : ℕ) (path : List ℕ) (v w : Value) → Same v w → Deeds Any (store n path v) (store n path w)
unfolding store
store_agrees n path v w s a b h =
    ended_if Any _ _ no_such_object _ _ (there_same n path a b h) tt
    (record {
      objects = objects_set n a.objects b.objects _ _ h.objects (with_path_same path _ _ _ _ (object_same n a.objects b.objects h.objects) (each_same (carries_too (object_in a n).own) (carries_too (object_in b n).own) (λ x y r. r) v w s));
      input = h.input;
      output = h.output;
      steps_left = h.steps_left;
      active = h.active;
      cost = h.cost;
    })

pub make_agrees : (x y : Object) → Same x.value y.value → Deeds (λ (m n : ℕ). m ≡ n) (make x) (make y)
unfolding make
make_agrees x y s a b h =
    (objects_length a.objects b.objects h.objects, record { objects = objects_more a.objects b.objects x y h.objects s; input = h.input; output = h.output; steps_left = h.steps_left; active = h.active; cost = h.cost })

next_agrees : (i : List ℕ) (a b : LevelState) → Agree a b → Ended (λ (m n : ℤ). m ≡ n) (next_of i a) (next_of i b)
next_agrees [] a b h = (refl, h)
next_agrees (x ∷ i) a b h = (refl, record { objects = h.objects; input = refl; output = h.output; steps_left = h.steps_left; active = h.active; cost = h.cost })

pub get_agrees : Deeds (λ (m n : ℤ). m ≡ n) get_byte get_byte
unfolding get_byte
get_agrees a b h = subst (λ (i : List ℕ). Ended (λ (m n : ℤ). m ≡ n) (next_of a.input a) (next_of i b)) h.input (next_agrees a.input a b h)

pub put_agrees : (v w : Written) → Bytes1 v w → Deeds Any (put_byte v) (put_byte w)
unfolding put_byte
put_agrees v w p a b h =
    ended_if Any _ _ (trap Output) _ _ (ap (λ (n : ℕ). nat_lt n OUTPUT_BYTES) (bytes_length a.output b.output h.output)) tt
    (record { objects = h.objects; input = h.input; output = bytes_more a.output b.output v w h.output p; steps_left = h.steps_left; active = h.active; cost = h.cost })

pub count_agrees : Deeds Any count_step count_step
unfolding count_step
count_agrees a b h =
    ended_if Any _ _ (trap Steps) _ _ (ap (λ (n : ℕ). nat_lt 0 n) h.steps_left) tt
    (record { objects = h.objects; input = h.input; output = h.output; steps_left = ap (λ (n : ℕ). n - 1) h.steps_left; active = h.active; cost = h.cost })

pub begin_agrees : Deeds Any begin_call begin_call
unfolding begin_call
begin_agrees a b h =
    ended_if Any _ _ (trap Depth) _ _ (ap (λ (n : ℕ). nat_lt n ACTIVE_CALLS) h.active) tt
    (record { objects = h.objects; input = h.input; output = h.output; steps_left = h.steps_left; active = ap (λ (n : ℕ). n + 1) h.active; cost = h.cost })

pub end_agrees : Deeds Any end_call end_call
unfolding end_call
end_agrees a b h = (tt, record { objects = h.objects; input = h.input; output = h.output; steps_left = h.steps_left; active = ap (λ (n : ℕ). n - 1) h.active; cost = h.cost })

pub pay_agrees : (cost : ℕ) → Deeds Any (pay cost) (pay cost)
unfolding pay
pay_agrees cost a b h =
    ended_if Any _ _ (trap Frames) _ _ (ap (λ (n : ℕ). nat_le (n + cost) FRAME_COST) h.cost) tt
    (record { objects = h.objects; input = h.input; output = h.output; steps_left = h.steps_left; active = h.active; cost = ap (λ (n : ℕ). n + cost) h.cost })

-- ---- places of the level

-- one place of the level
abbrev pub One : ℕ → Place → Place → Type 0
One L p q = (p ≡ q) × (p.level ≡ L)

-- A family that holds of the same deeds of a level respects the level.
module _ (F : Family) (L : ℕ) (same : (A B : Type 0) (P : A → B → Type 0) (line : ℕ) (f : Deed A) (g : Deed B) → Deeds P f g → F.Like P (within L line f) (within L line g)) where
  deeds : {A B : Type 0} (P : A → B → Type 0) (line : ℕ) (f : Deed A) (g : Deed B) → Deeds P f g → F.Like P (within L line f) (within L line g)
  deeds {A} {B} P line f g h = same A B P line f g h

  fetched_agrees : (p q : Place) → One L p q → F.Like Same (fetched p) (fetched q)
  fetched_agrees p q h =
      subst (λ (z : Place). F.Like Same (fetched p) (fetched z)) h.0
      (subst (λ (l : ℕ). F.Like Same (within l 0 (fetch p.object p.path)) (within l 0 (fetch p.object p.path))) (sym h.1)
      (deeds Same 0 (fetch p.object p.path) (fetch p.object p.path) (fetch_agrees p.object p.path)))

  stored_agrees : (p q : Place) (v w : Value) → One L p q → Same v w → F.Like Any (stored p v) (stored q w)
  stored_agrees p q v w h s =
      subst (λ (z : Place). F.Like Any (stored p v) (stored z w)) h.0
      (subst (λ (l : ℕ). F.Like Any (within l 0 (store p.object p.path v)) (within l 0 (store p.object p.path w))) (sym h.1)
      (deeds Any 0 (store p.object p.path v) (store p.object p.path w) (store_agrees p.object p.path v w s)))

  made_agrees : (v w : Value) → Same v w → F.Like (One L) (made L v) (made L w)
  made_agrees v w s =
      alike_then F (λ (m n : ℕ). m ≡ n) (One L) (within L 0 (make (record { own = []; value = v }))) (within L 0 (make (record { own = []; value = w }))) _ _
      (deeds (λ (m n : ℕ). m ≡ n) 0 (make (record { own = []; value = v })) (make (record { own = []; value = w })) (make_agrees (record { own = []; value = v }) (record { own = []; value = w }) s))
      (λ m n e. alike_pure F (One L) _ _ (ap (λ (k : ℕ). let p : Place = record { level = L; object = k; path = [] } in p) e, refl))

  pub one_respects : Respects F (One L) L
  one_respects = record {
    deeper_at = λ p q i h. (ap (λ (z : Place). deeper z i) h.0, h.1);
    fetches = fetched_agrees;
    stores = stored_agrees;
    makes = made_agrees;
    gets = deeds (λ (m n : ℤ). m ≡ n) 0 get_byte get_byte get_agrees;
    puts = λ line v w p. deeds Any line (put_byte v) (put_byte w) (put_agrees v w p);
    begins = λ line. deeds Any line begin_call begin_call begin_agrees;
    ends = deeds Any 0 end_call end_call end_agrees;
    pays = λ line cost. deeds Any line (pay cost) (pay cost) (pay_agrees cost);
    counts = λ line. deeds Any line count_step count_step count_agrees;
  }

-- ---- states

pub set_agrees : (L : ℕ) (s t : State) (a b : LevelState) → AtLevel L s t → Agree a b → AtLevel L (with_level s L a) (with_level t L b)
set_agrees L s t a b h k = (
  subst (λ (n : ℕ). L < n) (sym (length-set s L a)) h.0,
  subst (λ (n : ℕ). L < n) (sym (length-set t L b)) h.1,
  subst (λ (z : LevelState). Agree z (level_in (with_level t L b) L)) (sym (get_or-set_same s L a silent h.0))
      (subst (λ (z : LevelState). Agree a z) (sym (get_or-set_same t L b silent h.1)) k),
)

module _ (Lax : Stop → Type 0) (L : ℕ) where
  done_agrees : {A B : Type 0} (P : A → B → Type 0) (line : ℕ) (s t : State) (x : Result (A × LevelState) Fault) (y : Result (B × LevelState) Fault) → AtLevel L s t → Ended P x y → Ends (AtLevel L) Lax P (done L line s x) (done L line t y)
  done_agrees P line s t (Ok x) (Ok y) r h = (h.0, set_agrees L s t x.1 y.1 r h.1)
  done_agrees P line s t (Ok x) (Err d) r h = absurd h
  done_agrees P line s t (Err c) (Ok y) r h = absurd h
  done_agrees P line s t (Err c) (Err d) r h = inr (ap (stop_by L line) h, r)

  within_agrees : {A B : Type 0} (P : A → B → Type 0) (line : ℕ) (f : Deed A) (g : Deed B) → Deeds P f g → Alike (by_states (AtLevel L) Lax) P (within L line f) (within L line g)
  unfolding within
  within_agrees {A} {B} P line f g h s t r =
      subst (λ (z : Bool). Ends (AtLevel L) Lax P (if z then done L line s (f (level_in s L)) else stops meaningless s) (if nat_lt L (length t) then done L line t (g (level_in t L)) else stops meaningless t)) (sym (lt-ltb L (length s) r.0))
      (subst (λ (z : Bool). Ends (AtLevel L) Lax P (done L line s (f (level_in s L))) (if z then done L line t (g (level_in t L)) else stops meaningless t)) (sym (lt-ltb L (length t) r.1))
      (done_agrees P line s t (f (level_in s L)) (g (level_in t L)) r (h (level_in s L) (level_in t L) r.2)))

  -- The deeds of the level keep it the same: so expressions and statements of its functions do (`expression_like`, `statement_like`).
  pub level_respects : Respects (by_states (AtLevel L) Lax) (One L) L
  level_respects = one_respects (by_states (AtLevel L) Lax) L (λ A B P line f g h. within_agrees P line f g h)

-- what lies at the level is bound to one place of it
pub lies_at : (L l : ℕ) → l ≡ L → (b : Binding) → b.place.level ≡ l → Bound (One L) b b
lies_at L l e b q = (refl, refl, (refl, q ∙ e), refl)

-- the level's own names lie at its own places
module _ (L : ℕ) where
  one_of : (b : Binding) (bs : Env) (t : Bool) → (b.place.level == L) ≡ t → Envs (One L) bs bs → Envs (One L) (if t then b ∷ bs else bs) (if t then b ∷ bs else bs)
  one_of b bs true e h = ((refl, refl, (refl, eqb-true b.place.level L e), refl), h)
  one_of b bs false e h = h

  names_of : (bs : Env) → Envs (One L) (filter (λ (b : Binding). b.place.level == L) bs) (filter (λ (b : Binding). b.place.level == L) bs)
  names_of [] = tt
  names_of (b ∷ bs) = one_of b (filter (λ (b : Binding). b.place.level == L) bs) (b.place.level == L) refl (names_of bs)

  pub level_knows : (source : Source) → Envs (One L) (known_at source L) (known_at source L)
  level_knows source = names_of source.globals
