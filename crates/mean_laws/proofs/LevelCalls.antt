-- What calls do is alike at some levels, where it is alike for calls to other levels.
use Rattle.std.proofs.Common.{◌≡◌, ℕ, zero, suc, ◌≤◌, arith, List, [], ◌∷◌, map, refl, subst, Bool, true, false, ◌==◌, if◌then◌else◌, Option, Some, None, eqb-true}
use Rattle.cl_tree.specs.declared.kinds.TrapCause.TheVariants.{Return}
use Rattle.cl_tree.specs.Words.{Word}
use Rattle.cl_mean.specs.declared.labels.Mention.{Mention}
use Rattle.cl_mean.specs.declared.labels.Taints.{Taints}
use Rattle.cl_mean.specs.Value.{once, carries_just, Value, each}
use Rattle.cl_mean.specs.Shape.{Shape, nothing, integer, struct, array}
use Rattle.cl_mean.specs.State.{Place, begin_call, end_call, count_step}
use Rattle.cl_mean.specs.Course.{traps, unbounded, meaningless, Computation, pure, within, fetched, made, ◌>>=◌, ◌>>◌}
use Rattle.cl_mean.specs.Source.{Root, open_to_all, admits, labelled, Binding, Env, Parameter, Definition, Source, known_at, function_named}
use Rattle.cl_mean.specs.Evaluation.{Spot, Argument, given, lent, Calls}
use Rattle.cl_mean.specs.Execution.{Ending, goes_on, breaks, continues, returns, doing_of, in_turn}
use Rattle.cl_mean.specs.Calls.{with_parameters, at_end, result_of, body_run, coerced, coerced_by, arrays_coerced, result_labels, roots_coerced, local_call, LocalCall, Across, by_level, call_at}
use Rattle.mean_laws.proofs.Alike.{Family, alike_pure, Same, each_same, Any, Alike, alike_lax, alike_halt, alike_meet, alike_then, Respects, Bounds, less, Loops, Spots, Args, Bound, Envs, Endings, MaybeKnown, CallsAlike}
use Rattle.mean_laws.proofs.Statements

module _ (F : Family) (At : Place → Place → Type 0) (source : Source) (Known : Definition → Type 0) (named : (name : Word) → MaybeKnown Known (function_named source.functions name)) (In : ℕ → Type 0) (c : (l : ℕ) → In l → Respects F At l) (globals : (l : ℕ) → In l → Envs At (known_at source l) (known_at source l)) (statics : (l : ℕ) → In l → (b : Binding) → b.place.level ≡ l → Bound At b b) where
  abbrev pub Like : {A B : Type 0} → (A → B → Type 0) → Computation A → Computation B → Type 0
  Like P m n = Alike F P m n

  then_like : {A B C D : Type 0} (P : A → B → Type 0) (Q : C → D → Type 0) (m : Computation A) (n : Computation B) (f : A → Computation C) (g : B → Computation D) → Like P m n → ((a : A) (b : B) → P a b → Like Q (f a) (g b)) → Like Q (m >>= f) (n >>= g)
  then_like P Q m n f g hm hf = alike_then F P Q m n f g hm hf

  next_like : {A B C D : Type 0} (P : A → B → Type 0) (Q : C → D → Type 0) (m : Computation A) (n : Computation B) (f : Computation C) (g : Computation D) → Like P m n → Like Q f g → Like Q (m >> f) (n >> g)
  next_like P Q m n f g hm hf = then_like P Q m n (λ _. f) (λ _. g) hm (λ a b p. hf)

  at_level : (d : Definition) → In d.level → Respects F At d.level
  at_level d e = c d.level e

  known_like : (d : Definition) → In d.level → Envs At (known_at source d.level) (known_at source d.level)
  known_like d e = globals d.level e

  -- ---- the body of a function

  pub parameters_like : (d : Definition) → In d.level → (ps : List Parameter) (xs ys : List Argument) → Args At xs ys → (e e' : Env) → Envs At e e' → Like (Envs At) (with_parameters d.level ps xs e) (with_parameters d.level ps ys e')
  parameters_like d l [] [] [] h e e' g = alike_pure F _ _ _ (g)
  parameters_like d l [] [] (b ∷ ys) h e e' g = absurd h
  parameters_like d l [] (a ∷ xs) [] h e e' g = absurd h
  parameters_like d l [] (a ∷ xs) (b ∷ ys) h e e' g = alike_halt F (Envs At) meaningless tt
  parameters_like d l (p ∷ ps) [] [] h e e' g = alike_halt F (Envs At) meaningless tt
  parameters_like d l (p ∷ ps) [] (b ∷ ys) h e e' g = absurd h
  parameters_like d l (p ∷ ps) (a ∷ xs) [] h e e' g = absurd h
  parameters_like d l (p ∷ ps) (given v ∷ xs) (given w ∷ ys) h e e' g =
      then_like At (Envs At) (made d.level v) (made d.level w) _ _ ((at_level d l).makes v w h.0) (λ q q' a. parameters_like d l ps xs ys h.1 _ _ ((refl, refl, a, refl), g))
  parameters_like d l (p ∷ ps) (given v ∷ xs) (lent t ∷ ys) h e e' g = absurd h.0
  parameters_like d l (p ∷ ps) (lent s ∷ xs) (given w ∷ ys) h e e' g = absurd h.0
  parameters_like d l (p ∷ ps) (lent s ∷ xs) (lent t ∷ ys) h e e' g = parameters_like d l ps xs ys h.1 _ _ ((refl, refl, h.0.0, refl), g)

  -- the statements of a body, where the names are known
  pub statements_like : (n n' : ℕ) (calls : Calls) (calls' : Calls) (d : Definition) → Known d → In d.level → Loops F At d.level n n' → CallsAlike F At Known d calls calls' → (e e' : Env) → Envs At e e'
      → Like (Endings At) (in_turn (map (doing_of (record { source = source; calls = calls; here = d }) n) d.body) 0 e) (in_turn (map (doing_of (record { source = source; calls = calls'; here = d }) n') d.body) 0 e')
  statements_like n n' calls calls' d kn l loops hc e e' g = Statements.body_like F At source Known named d calls calls' (at_level d l) hc (statics d.level l) n n' loops d.body 0 e e' g

  run_like : (n n' : ℕ) (calls : Calls) (calls' : Calls) (d : Definition) → Known d → (l : In d.level) → Loops F At d.level n n' → CallsAlike F At Known d calls calls' → (xs ys : List Argument) → Args At xs ys → Like (Endings At) (body_run source n calls d xs) (body_run source n' calls' d ys)
  run_like n n' calls calls' d kn l loops hc xs ys h =
      then_like (Envs At) (Endings At)
      (within d.level d.line begin_call >> within d.level d.line count_step >> with_parameters d.level d.params xs (known_at source d.level))
      (within d.level d.line begin_call >> within d.level d.line count_step >> with_parameters d.level d.params ys (known_at source d.level)) _ _
      (next_like Any (Envs At) (within d.level d.line begin_call >> within d.level d.line count_step) (within d.level d.line begin_call >> within d.level d.line count_step) _ _
      (next_like Any Any (within d.level d.line begin_call) (within d.level d.line begin_call) _ _ ((at_level d l).begins d.line) ((at_level d l).counts d.line))
      (parameters_like d l d.params xs ys h _ _ (known_like d l)))
      (λ e e' g. statements_like n n' calls calls' d kn l loops hc e e' g)

  -- ---- a local call

  end_like : (d : Definition) → In d.level → (k : Shape) → Like Same (at_end d k) (at_end d k)
  end_like d l nothing = alike_pure F _ _ _ (tt)
  end_like d l (integer kind) = alike_halt F Same (traps d.level (record { cause = Return; line = d.line })) tt
  end_like d l (struct ms) = alike_halt F Same (traps d.level (record { cause = Return; line = d.line })) tt
  end_like d l (array element size) = alike_halt F Same (traps d.level (record { cause = Return; line = d.line })) tt

  result_like : (d : Definition) → In d.level → (a b : Ending) → Endings At a b → Like Same (result_of d a) (result_of d b)
  result_like d l (returns v) (returns w) h = alike_pure F _ _ _ (h)
  result_like d l (goes_on e) (goes_on e') h = end_like d l d.result
  result_like d l breaks breaks h = alike_halt F Same meaningless tt
  result_like d l continues continues h = alike_halt F Same meaningless tt
  result_like d l _ _ h = absurd h

  coerced_like : (l : ℕ) → In l → (p q : Place) (labels : List Mention) → At p q → Like Any (coerced p labels) (coerced q labels)
  coerced_like l i p q labels a =
      then_like Same Any (fetched p) (fetched q) _ _ ((c l i).fetches p q a) (λ v w s. (c l i).stores p q (each (carries_just labels) v) (each (carries_just labels) w) a (each_same (carries_just labels) (carries_just labels) (λ x y r. r) v w s))

  by_like : (l : ℕ) → In l → (p q : Place) (root : Root) → At p q → Like Any (coerced_by p root) (coerced_by q root)
  by_like l i p q (admits taints) a = coerced_like l i p q taints a
  by_like l i p q open_to_all a = alike_pure F _ _ _ (tt)
  by_like l i p q labelled a = alike_pure F _ _ _ (tt)

  arrays_like : (l : ℕ) → In l → (ps : List Parameter) (xs ys : List Argument) → Args At xs ys → Like Any (arrays_coerced ps xs) (arrays_coerced ps ys)
  arrays_like l i [] [] [] h = alike_pure F _ _ _ (tt)
  arrays_like l i [] [] (b ∷ ys) h = absurd h
  arrays_like l i [] (a ∷ xs) [] h = absurd h
  arrays_like l i [] (a ∷ xs) (b ∷ ys) h = alike_halt F Any meaningless tt
  arrays_like l i (p ∷ ps) [] [] h = alike_halt F Any meaningless tt
  arrays_like l i (p ∷ ps) [] (b ∷ ys) h = absurd h
  arrays_like l i (p ∷ ps) (a ∷ xs) [] h = absurd h
  arrays_like l i (p ∷ ps) (given v ∷ xs) (given w ∷ ys) h = arrays_like l i ps xs ys h.1
  arrays_like l i (p ∷ ps) (given v ∷ xs) (lent t ∷ ys) h = absurd h.0
  arrays_like l i (p ∷ ps) (lent s ∷ xs) (given w ∷ ys) h = absurd h.0
  arrays_like l i (p ∷ ps) (lent s ∷ xs) (lent t ∷ ys) h = next_like Any Any (coerced_by s.place p.root) (coerced_by t.place p.root) _ _ (by_like l i s.place t.place p.root h.0.0) (arrays_like l i ps xs ys h.1)

  root_like : (l : ℕ) → In l → (s t : Spot) → Spots At s t → Like Any (coerced_by s.place s.root) (coerced_by t.place t.root)
  root_like l i s t h = subst (λ (z : Root). Like Any (coerced_by s.place s.root) (coerced_by t.place z)) h.1 (by_like l i s.place t.place s.root h.0)

  roots_like : (l : ℕ) → In l → (xs ys : List Argument) → Args At xs ys → Like Any (roots_coerced xs) (roots_coerced ys)
  roots_like l i [] [] h = alike_pure F _ _ _ (tt)
  roots_like l i [] (b ∷ ys) h = absurd h
  roots_like l i (a ∷ xs) [] h = absurd h
  roots_like l i (given v ∷ xs) (given w ∷ ys) h = roots_like l i xs ys h.1
  roots_like l i (given v ∷ xs) (lent t ∷ ys) h = absurd h.0
  roots_like l i (lent s ∷ xs) (given w ∷ ys) h = absurd h.0
  roots_like l i (lent s ∷ xs) (lent t ∷ ys) h = next_like Any Any (coerced_by s.place s.root) (coerced_by t.place t.root) _ _ (root_like l i s t h.0) (roots_like l i xs ys h.1)

  labels_same : (t : Option Taints) (v w : Value) → Same v w → Same (result_labels t v) (result_labels t w)
  labels_same None v w s = s
  labels_same (Some t) v w s = each_same (carries_just (once t.result)) (carries_just (once t.result)) (λ x y r. r) v w s

  -- behind the body of a function: its result, and the labels of its arrays
  abbrev pub behind : Definition → List Argument → Ending → Computation Value
  behind d args ending = result_of d ending >>= λ v. within d.level 0 end_call >> arrays_coerced d.params args >> pure (result_labels d.taints v)

  pub behind_like : (d : Definition) → In d.level → (xs ys : List Argument) → Args At xs ys → (a b : Ending) → Endings At a b → Like Same (behind d xs a) (behind d ys b)
  behind_like d l xs ys h a b f =
      then_like Same Same (result_of d a) (result_of d b) _ _ (result_like d l a b f) (λ v w s.
      next_like Any Same (within d.level 0 end_call >> arrays_coerced d.params xs) (within d.level 0 end_call >> arrays_coerced d.params ys) _ _
      (next_like Any Any (within d.level 0 end_call) (within d.level 0 end_call) _ _ (at_level d l).ends (arrays_like d.level l d.params xs ys h))
      (alike_pure F _ _ _ (labels_same d.taints v w s)))

  -- a call, where the callee's local call is alike and the far call is
  pub chosen_like : (across : Across) (across' : Across) (call : LocalCall) (call' : LocalCall) (here : Definition) (line : ℕ) (d : Definition) → In here.level → (xs ys : List Argument) → Args At xs ys → (In d.level → Like Same (call d xs) (call' d ys)) → Like Same (across call here line d xs) (across' call' here line d ys)
      → Like Same (by_level call across here line d xs) (by_level call' across' here line d ys)
  chosen_like across across' call call' here line d l xs ys h near far =
      then_like Same Same (if here.level == d.level then call d xs else across call here line d xs) (if here.level == d.level then call' d ys else across' call' here line d ys) _ _
      (either (here.level == d.level) refl)
      (λ v w s. next_like Any Same (roots_coerced xs) (roots_coerced ys) _ _ (roots_like here.level l xs ys h) (alike_pure F _ _ _ (s)))
    where
      either : (b : Bool) → (here.level == d.level) ≡ b → Like Same (if b then call d xs else across call here line d xs) (if b then call' d ys else across' call' here line d ys)
      either true q = near (subst In (eqb-true here.level d.level q) l)
      either false q = far

  -- ---- under two bounds

  module _ (meet : F.Meets) where
    loops_at : (n n' : ℕ) → Bounds F.Lax n n' → (calls : Calls) (calls' : Calls) (d : Definition) → Known d → (l : In d.level) → CallsAlike F At Known d calls calls' → Loops F At d.level n n'
    loops_at n n' bb calls calls' d kn l hc = Statements.loops_like F At source Known named d calls calls' (at_level d l) hc (statics d.level l) meet n n' bb

    pub body_like : (n n' : ℕ) → Bounds F.Lax n n' → (calls : Calls) (calls' : Calls) (d : Definition) → Known d → In d.level → CallsAlike F At Known d calls calls' → (xs ys : List Argument) → Args At xs ys → Like (Endings At) (body_run source n calls d xs) (body_run source n' calls' d ys)
    body_like n n' bb calls calls' d kn l hc xs ys h = run_like n n' calls calls' d kn l (loops_at n n' bb calls calls' d kn l hc) hc xs ys h

    pub local_like : (n n' : ℕ) → Bounds F.Lax n n' → (calls : Calls) (calls' : Calls) (d : Definition) → Known d → In d.level → CallsAlike F At Known d calls calls' → (xs ys : List Argument) → Args At xs ys → Like Same (local_call source n calls d xs) (local_call source n' calls' d ys)
    unfolding local_call
    local_like n n' bb calls calls' d kn l hc xs ys h = then_like (Endings At) Same (body_run source n calls d xs) (body_run source n' calls' d ys) _ _ (body_like n n' bb calls calls' d kn l hc xs ys h) (behind_like d l xs ys h)

    -- ---- calls of both kinds

    module _ (across : Across) (across' : Across) (ha : (n n' : ℕ) → Bounds F.Lax n n' → ((f : Definition) → Known f → In f.level → (xs ys : List Argument) → Args At xs ys → Like Same (local_call source n (call_at source across n) f xs) (local_call source n' (call_at source across' n') f ys)) → (here : Definition) (line : ℕ) (d : Definition) → Known d → (xs ys : List Argument) → In here.level → Args At xs ys → Like Same (across (local_call source n (call_at source across n)) here line d xs) (across' (local_call source n' (call_at source across' n')) here line d ys)) where
      -- What calls do at the level is alike, at any depth.
      pub calls_alike : (n n' : ℕ) → Bounds F.Lax n n' → (here : Definition) → In here.level → CallsAlike F At Known here (call_at source across n) (call_at source across' n')
      unfolding call_at
      calls_alike zero zero bb here l line d kn xs ys h = alike_meet F Same meet
      calls_alike zero (suc n') bb here l line d kn xs ys h = alike_lax F Same unbounded (call_at source across' (suc n') here line d ys) (bb.1 (omega arith))
      calls_alike (suc n) zero bb here l line d kn xs ys h = let p : suc n ≤ 0 = bb.0 in absurd (omega arith)
      calls_alike (suc n) (suc n') b here l line d kn xs ys h =
          let bb : Bounds F.Lax n n' = less F.Lax n n' b in
          chosen_like across across' (local_call source n (call_at source across n)) (local_call source n' (call_at source across' n')) here line d l xs ys h
          (λ e. local_like n n' bb _ _ d kn e (calls_alike n n' bb d e) xs ys h)
          (ha n n' bb (λ f kf i. local_like n n' bb _ _ f kf i (calls_alike n n' bb f i)) here line d kn xs ys l h)
