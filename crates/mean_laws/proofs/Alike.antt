-- When two computations do the same, but for labels: a relation on their courses, carried through `>>=`.
use Rattle.std.proofs.Common.{◌≡◌, ℕ, zero, suc, ◌<◌, ◌≤◌, arith, ℤ, List, [], ◌∷◌, length, refl, ap, Bool, true, false, ◌&&◌, if◌then◌else◌, Option, Some, None, ◌⊎◌, inl, inr}
use Rattle.cl_mean.specs.Value.{Labelled, Value, Values, number, parts, no_more, ◌then◌, each, each_of, nth, part, is_nth, is_part, is_path}
use Rattle.cl_mean.specs.State.{State, Place, Written, deeper, get_byte, put_byte, count_step, begin_call, end_call, pay}
use Rattle.cl_mean.specs.Course.{Stop, traps, unbounded, meaningless, Ask, Course, comes, stops, asks, Computation, pure, halted, asking, the_number, goes_to, ◌>>=◌, ◌>>◌, fetched, stored, made, within}
use Rattle.cl_mean.specs.Source.{Binding, Env, Definition}
use Rattle.cl_mean.specs.Evaluation.{Spot, Argument, given, lent, Calls}
pub use Rattle.mean_laws.specs.Alike.{Num, Same, SameAll, Nums, Replies, Asks, SideBySide}
use Rattle.cl_mean.specs.Execution.{Ending, goes_on, breaks, continues, returns, looped, rounds}

mutual
  pub each_same : (f g : Labelled → Labelled) → ((x y : Labelled) → Num x y → Num (f x) (g y)) → (v w : Value) → Same v w → Same (each f v) (each g w)
  each_same f g h (number x) (number y) s = h x y s
  each_same f g h (number x) (parts ws) s = absurd s
  each_same f g h (parts vs) (number y) s = absurd s
  each_same f g h (parts vs) (parts ws) s = all_same f g h vs ws s

  pub all_same : (f g : Labelled → Labelled) → ((x y : Labelled) → Num x y → Num (f x) (g y)) → (vs ws : Values) → SameAll vs ws → SameAll (each_of f vs) (each_of g ws)
  all_same f g h no_more no_more s = tt
  all_same f g h no_more (w then ws) s = absurd s
  all_same f g h (v then vs) no_more s = absurd s
  all_same f g h (v then vs) (w then ws) s = (each_same f g h v w s.0, all_same f g h vs ws s.1)

mutual
  pub same_refl : (v : Value) → Same v v
  same_refl (number x) = refl
  same_refl (parts vs) = all_refl vs

  pub all_refl : (vs : Values) → SameAll vs vs
  all_refl no_more = tt
  all_refl (v then vs) = (same_refl v, all_refl vs)

pub nth_same : (i : ℕ) (vs ws : Values) → SameAll vs ws → Same (nth vs i) (nth ws i)
nth_same i no_more no_more s = tt
nth_same i no_more (w then ws) s = absurd s
nth_same i (v then vs) no_more s = absurd s
nth_same zero (v then vs) (w then ws) s = s.0
nth_same (suc i) (v then vs) (w then ws) s = nth_same i vs ws s.1

pub part_same : (i : ℕ) (v w : Value) → Same v w → Same (part v i) (part w i)
part_same i (number x) (number y) s = tt
part_same i (number x) (parts ws) s = absurd s
part_same i (parts vs) (number y) s = absurd s
part_same i (parts vs) (parts ws) s = nth_same i vs ws s

-- the same values have the same parts
is_nth_same : (i : ℕ) (vs ws : Values) → SameAll vs ws → is_nth vs i ≡ is_nth ws i
is_nth_same i no_more no_more s = refl
is_nth_same i no_more (w then ws) s = absurd s
is_nth_same i (v then vs) no_more s = absurd s
is_nth_same zero (v then vs) (w then ws) s = refl
is_nth_same (suc i) (v then vs) (w then ws) s = is_nth_same i vs ws s.1

pub is_part_same : (i : ℕ) (v w : Value) → Same v w → is_part v i ≡ is_part w i
is_part_same i (number x) (number y) s = refl
is_part_same i (number x) (parts ws) s = absurd s
is_part_same i (parts vs) (number y) s = absurd s
is_part_same i (parts vs) (parts ws) s = is_nth_same i vs ws s

pub both_same : (a b c d : Bool) → a ≡ b → c ≡ d → (a && c) ≡ (b && d)
both_same a b c d e f = cc

pub is_path_same : (path : List ℕ) (v w : Value) → Same v w → is_path v path ≡ is_path w path
is_path_same [] v w s = refl
is_path_same (i ∷ path) v w s = both_same (is_part v i) (is_part w i) (is_path (part v i) path) (is_path (part w i) path) (is_part_same i v w s) (is_path_same path (part v i) (part w i) (part_same i v w s))

pub nums_length : (xs ys : List Labelled) → Nums xs ys → length xs ≡ length ys
nums_length [] [] h = refl
nums_length [] (y ∷ ys) h = absurd h
nums_length (x ∷ xs) [] h = absurd h
nums_length (x ∷ xs) (y ∷ ys) h = ap suc (nums_length xs ys h.1)

-- ---- computations that do the same

abbrev pub Any : {A B : Type 0} → A → B → Type 0
Any a b = Unit {0}

-- a stop that isn't the bound's
abbrev pub IsOwn : Stop → Type 0
IsOwn (traps level t) = Unit {0}
IsOwn unbounded = ⊥
IsOwn meaningless = Unit {0}

-- A family of relations on computations, one for each relation `P` on their results, by which they are put together. Where one stops
-- so that `Lax` holds, nothing is said of the other: it may go on, with more rounds. It speaks of runs that meet the bound where
-- `Meets` holds.
pub record Family : Type 1 where
  pub Lax : Stop → Type 0
  pub Meets : Type 0
  pub Like : {A B : Type 0} → (A → B → Type 0) → Computation A → Computation B → Type 0
  pub pures : {A B : Type 0} (P : A → B → Type 0) (a : A) (b : B) → P a b → Like P (pure a) (pure b)
  pub halts : {A B : Type 0} (P : A → B → Type 0) (stop : Stop) → IsOwn stop → Like P (halted stop) (halted stop)
  pub meets : {A B : Type 0} (P : A → B → Type 0) → Meets → Like P (halted unbounded) (halted unbounded)
  pub laxes : {A B : Type 0} (P : A → B → Type 0) (stop : Stop) (n : Computation B) → Lax stop → Like P (halted stop) n
  pub thens : {A B C D : Type 0} (P : A → B → Type 0) (Q : C → D → Type 0) (m : Computation A) (n : Computation B) (f : A → Computation C) (g : B → Computation D) → Like P m n → ((a : A) (b : B) → P a b → Like Q (f a) (g b)) → Like Q (m >>= f) (n >>= g)

module _ (F : Family) where
  abbrev pub Alike : {A B : Type 0} → (A → B → Type 0) → Computation A → Computation B → Type 0
  Alike P m n = F.Like P m n

  pub alike_pure : {A B : Type 0} (P : A → B → Type 0) (a : A) (b : B) → P a b → Alike P (pure a) (pure b)
  alike_pure P a b p = F.pures P a b p

  pub alike_halt : {A B : Type 0} (P : A → B → Type 0) (stop : Stop) → IsOwn stop → Alike P (halted stop) (halted stop)
  alike_halt P stop o = F.halts P stop o

  pub alike_meet : {A B : Type 0} (P : A → B → Type 0) → F.Meets → Alike P (halted unbounded) (halted unbounded)
  alike_meet P m = F.meets P m

  pub alike_lax : {A B : Type 0} (P : A → B → Type 0) (stop : Stop) (n : Computation B) → F.Lax stop → Alike P (halted stop) n
  alike_lax P stop n l = F.laxes P stop n l

  -- the one lemma by which all computations are put together
  pub alike_then : {A B C D : Type 0} (P : A → B → Type 0) (Q : C → D → Type 0) (m : Computation A) (n : Computation B) (f : A → Computation C) (g : B → Computation D) → Alike P m n → ((a : A) (b : B) → P a b → Alike Q (f a) (g b)) → Alike Q (m >>= f) (n >>= g)
  alike_then P Q m n f g hm hf = F.thens P Q m n f g hm hf

  pub alike_if : {A B : Type 0} (P : A → B → Type 0) (c : Bool) (m m' : Computation A) (n n' : Computation B) → Alike P m n → Alike P m' n' → Alike P (if c then m else m') (if c then n else n')
  alike_if P true m m' n n' h h' = h
  alike_if P false m m' n n' h h' = h'

  -- the same value is a number in both, or in neither
  pub alike_number : (v w : Value) → Same v w → Alike Num (the_number v) (the_number w)
  alike_number (number x) (number y) s = alike_pure Num x y s
  alike_number (number x) (parts ws) s = absurd s
  alike_number (parts vs) (number y) s = absurd s
  alike_number (parts vs) (parts ws) s = alike_halt Num meaningless tt

  -- What the relation must respect at a level: places that correspond, and the deeds.
  pub record Respects (At : Place → Place → Type 0) (level : ℕ) : Type 0 where
    pub deeper_at : (p q : Place) (i : ℕ) → At p q → At (deeper p i) (deeper q i)
    pub fetches : (p q : Place) → At p q → Alike Same (fetched p) (fetched q)
    pub stores : (p q : Place) (v w : Value) → At p q → Same v w → Alike Any (stored p v) (stored q w)
    pub makes : (v w : Value) → Same v w → Alike At (made level v) (made level w)
    pub gets : Alike (λ (a b : ℤ). a ≡ b) (within level 0 get_byte) (within level 0 get_byte)
    pub puts : (line : ℕ) (v w : Written) → v.byte ≡ w.byte → Alike Any (within level line (put_byte v)) (within level line (put_byte w))
    pub begins : (line : ℕ) → Alike Any (within level line begin_call) (within level line begin_call)
    pub ends : Alike Any (within level 0 end_call) (within level 0 end_call)
    pub pays : (line cost : ℕ) → Alike Any (within level line (pay cost)) (within level line (pay cost))
    pub counts : (line : ℕ) → Alike Any (within level line count_step) (within level line count_step)

-- ---- names, places and arguments that correspond

module _ (At : Place → Place → Type 0) where
  abbrev pub Spots : Spot → Spot → Type 0
  Spots s t = At s.place t.place × (s.root ≡ t.root)

  abbrev pub Args1 : Argument → Argument → Type 0
  Args1 (given v) (given w) = Same v w
  Args1 (given v) (lent t) = ⊥
  Args1 (lent s) (given w) = ⊥
  Args1 (lent s) (lent t) = Spots s t

  abbrev pub Args : List Argument → List Argument → Type 0
  Args [] [] = Unit {0}
  Args [] (b ∷ bs) = ⊥
  Args (a ∷ xs) [] = ⊥
  Args (a ∷ xs) (b ∷ bs) = Args1 a b × Args xs bs

  abbrev pub Bound : Binding → Binding → Type 0
  Bound a b = (a.name ≡ b.name) × (a.shape ≡ b.shape) × At a.place b.place × (a.root ≡ b.root)

  abbrev pub Envs : Env → Env → Type 0
  Envs [] [] = Unit {0}
  Envs [] (b ∷ bs) = ⊥
  Envs (a ∷ xs) [] = ⊥
  Envs (a ∷ xs) (b ∷ bs) = Bound a b × Envs xs bs

  -- how statements end
  abbrev pub Endings : Ending → Ending → Type 0
  Endings (goes_on e) (goes_on e') = Envs e e'
  Endings breaks breaks = Unit {0}
  Endings continues continues = Unit {0}
  Endings (returns v) (returns w) = Same v w
  Endings _ _ = ⊥

  abbrev pub MaybeBound : Option Binding → Option Binding → Type 0
  MaybeBound None None = Unit {0}
  MaybeBound None (Some b) = ⊥
  MaybeBound (Some a) None = ⊥
  MaybeBound (Some a) (Some b) = Bound a b

  pub bound_if : (c : Bool) (a b x y : Option Binding) → MaybeBound a b → MaybeBound x y → MaybeBound (if c then a else x) (if c then b else y)
  bound_if true a b x y h k = h
  bound_if false a b x y h k = k

-- a function that a name stands for, if there is one, is known
abbrev pub MaybeKnown : (Definition → Type 0) → Option Definition → Type 0
MaybeKnown Known None = Unit {0}
MaybeKnown Known (Some d) = Known d

abbrev pub All_known : Definition → Type 0
All_known d = Unit {0}

pub all_known : (o : Option Definition) → MaybeKnown All_known o
all_known None = tt
all_known (Some d) = tt

-- what calls of known functions do is alike
abbrev pub CallsAlike : (F : Family) (At : Place → Place → Type 0) (Known : Definition → Type 0) → Definition → Calls → Calls → Type 0
CallsAlike F At Known here calls calls' = (line : ℕ) (d : Definition) → Known d → (xs ys : List Argument) → Args At xs ys → Alike F Same (calls here line d xs) (calls' here line d ys)

-- loops of a level, whose tests are counted, are alike under two bounds where their tests, bodies and what follows these are
abbrev pub Loops : (F : Family) (At : Place → Place → Type 0) → ℕ → ℕ → ℕ → Type 0
Loops F At level k k' =
    (line : ℕ) (f f' : Ending) (u : Computation Bool) (v : Computation Bool) (m m' : Computation Ending) (n n' : Computation Ending) → Endings At f f' → Alike F (λ (a b : Bool). a ≡ b) u v → Alike F (Endings At) m n → Alike F (Endings At) m' n'
    → Alike F (Endings At) (rounds k f (within level line count_step >> u) m m') (rounds k' f' (within level line count_step >> v) n n')

module _ (F : Family) (At : Place → Place → Type 0) where
  -- behind the body of a loop
  pub looped_like : (f f' : Ending) (m : Computation Ending) (n : Computation Ending) → Endings At f f' → Alike F (Endings At) m n → (a b : Ending) → Endings At a b → Alike F (Endings At) (looped f m a) (looped f' n b)
  looped_like f f' m n g h (goes_on e) (goes_on e') s = h
  looped_like f f' m n g h breaks breaks s = alike_pure F (Endings At) f f' g
  looped_like f f' m n g h continues continues s = h
  looped_like f f' m n g h (returns v) (returns w) s = alike_pure F (Endings At) (returns v) (returns w) s
  looped_like f f' m n g h _ _ s = absurd s

-- ---- courses side by side

-- Two runs, with a relation on their states. Their courses go side by side: to results that `P` relates, to the same stop, or to
-- the same call, behind which they go side by side for every two replies of the same numbers and every two states that are
-- related, whatever was done to these meanwhile. Where the first one stops so that `Lax` holds, nothing is said of the second:
-- it may go on, with more rounds.
module _ (R : State → State → Type 0) (Lax : Stop → Type 0) where
  abbrev pub Ends : {A B : Type 0} → (A → B → Type 0) → Course A → Course B → Type 0
  Ends P x y = SideBySide R Lax P x y

  abbrev pub Sides : {A B : Type 0} → (A → B → Type 0) → Computation A → Computation B → Type 0
  Sides P m n = (s : State) (t : State) → R s t → Ends P (m s) (n t)

  pub sides_pure : {A B : Type 0} (P : A → B → Type 0) (a : A) (b : B) → P a b → Sides P (pure a) (pure b)
  sides_pure P a b p s t r = (p, r)

  pub sides_halt : {A B : Type 0} (P : A → B → Type 0) (stop : Stop) → Sides P (halted stop) (halted stop)
  sides_halt P stop s t r = inr (refl, r)

  pub sides_ask : (a b : Ask) → Asks a b → Sides Replies (asking a) (asking b)
  sides_ask a b h s t r = (h, r, λ x y e s' t' r'. (e, r'))

  pub ends_lax : {C D : Type 0} (Q : C → D → Type 0) (h : Stop) (s : State) (y : Course D) → Lax h → Ends Q (stops h s) y
  ends_lax Q h s (comes b t) l = l
  ends_lax Q h s (stops k t) l = inl l
  ends_lax Q h s (asks b t g) l = l

  stops_then : {C D : Type 0} (Q : C → D → Type 0) (h k : Stop) (s t : State) → Lax h ⊎ ((h ≡ k) × R s t) → Ends Q (stops h s) (stops k t)
  stops_then Q h k s t e = e

  pub ends_then : {A B C D : Type 0} (P : A → B → Type 0) (Q : C → D → Type 0) (x : Course A) (y : Course B) (f : A → Computation C) (g : B → Computation D) → Ends P x y → ((a : A) (b : B) → P a b → Sides Q (f a) (g b)) → Ends Q (goes_to f x) (goes_to g y)
  ends_then P Q (comes a s) (comes b t) f g e h = h a b e.0 s t e.1
  ends_then P Q (comes a s) (stops k t) f g e h = absurd e
  ends_then P Q (comes a s) (asks b t g') f g e h = absurd e
  ends_then P Q (stops h' s) (comes b t) f g e h = ends_lax Q h' s (g b t) e
  ends_then P Q (stops h' s) (stops k t) f g e h = stops_then Q h' k s t e
  ends_then P Q (stops h' s) (asks b t g') f g e h = e
  ends_then P Q (asks a s f') (comes b t) f g e h = absurd e
  ends_then P Q (asks a s f') (stops k t) f g e h = absurd e
  ends_then P Q (asks a s f') (asks b t g') f g e h = (e.0, e.1, λ r q i s' t' l. ends_then P Q (f' r s') (g' q t') f g (e.2 r q i s' t' l) h)

  -- the one lemma by which all computations are put together
  pub sides_then : {A B C D : Type 0} (P : A → B → Type 0) (Q : C → D → Type 0) (m : Computation A) (n : Computation B) (f : A → Computation C) (g : B → Computation D) → Sides P m n → ((a : A) (b : B) → P a b → Sides Q (f a) (g b)) → Sides Q (m >>= f) (n >>= g)
  sides_then P Q m n f g hm hf s t r = ends_then P Q (m s) (n t) f g (hm s t r) hf

  -- the family of all this
  abbrev pub by_states : Family
  by_states = record {
    Lax = Lax;
    Meets = Unit {0};
    Like = Sides;
    pures = sides_pure;
    halts = λ P stop o. sides_halt P stop;
    meets = λ P m. sides_halt P unbounded;
    laxes = λ P stop n l s t r. ends_lax P stop s (n t) l;
    thens = sides_then;
  }

-- ---- bounds on rounds and calls

-- a bound, and another that is no lower; where it is higher, the first run may be stopped by its own
abbrev pub Bounds : (Stop → Type 0) → ℕ → ℕ → Type 0
Bounds Lax n k = (n ≤ k) × (n < k → Lax unbounded)

pub less : (Lax : Stop → Type 0) (n k : ℕ) → Bounds Lax (suc n) (suc k) → Bounds Lax n k
less Lax n k b = let p : suc n ≤ suc k = b.0 in (omega arith, λ l. b.1 (omega arith))

pub bound_same : (Lax : Stop → Type 0) (n : ℕ) → Bounds Lax n n
bound_same Lax n = (omega arith, λ l. absurd (omega arith))
