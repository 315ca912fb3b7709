-- Each call and each round of a loop takes a step, so a run whose bound is above the steps left over all levels never meets it.
use Rattle.std.proofs.Common.{◌≡◌, ℕ, zero, suc, ◌<◌, ◌≤◌, arith, List, length, Result, Ok, Err, Bool, true, false, if◌then◌else◌, Some, None}
use Rattle.std.specs.Prelude.{nat_lt}
use Rattle.cl_mean.specs.State.{LevelState, State, Fault, trap, no_such_object, Deed, level_in, with_level, count_step, begin_call}
use Rattle.cl_mean.specs.Course.{Course, comes, stops, asks, meaningless, stop_by, Ask, Reply, Computation, pure, goes_to, asking, done, within, ◌>>=◌, ◌>>◌}
use Rattle.cl_mean.specs.Source.{Definition, Source, known_at, function_named}
use Rattle.cl_mean.specs.Evaluation.{Argument}
use Rattle.cl_mean.specs.Execution.{Ending, looped, rounds}
use Rattle.cl_mean.specs.Calls.{Across, with_parameters, body_run, local_call, call_at}
use Rattle.mean_laws.proofs.Alike.{Family, IsOwn, Same, Any, Replies, Asks, alike_pure, alike_then, alike_if, Respects, Loops, looped_like, Args, Envs, Endings, All_known, all_known, CallsAlike}
use Rattle.mean_laws.proofs.SameLevel.{Ended, Deeds}
use Rattle.mean_laws.proofs.AllLevels.{SamePlace, envs_refl, bound_refl, places_respect}
use Rattle.mean_laws.proofs.PlainRuns.{level_refl}
use Rattle.mean_laws.proofs.FarCalls.{nums_refl}
use Rattle.mean_laws.proofs.StepsLeft.{steps_in, no_more, fewer, FallsTo, Falls, Lower, begin_falls, count_lowers}
use Rattle.mean_laws.proofs.LevelCalls

-- ---- the family: a course that stops by itself, and comes and asks with fewer steps left than a number

-- What it comes to is related to something by `P`. From where it asks it goes on in any state with no more steps left than there.
abbrev pub Counts : {A B : Type 0} → ℕ → (A → B → Type 0) → Course A → Type 0
Counts {A} {B} n P (comes a s) = ((b : B) × P a b) × (steps_in s < n)
Counts n P (stops h s) = IsOwn h × (steps_in s ≤ n)
Counts n P (asks a s rest) = (steps_in s < n) × ((r : Reply) (now : State) → steps_in now ≤ steps_in s → Counts (suc (steps_in now)) P (rest r now))

pub counts_more : {A B : Type 0} (P : A → B → Type 0) (n m : ℕ) (x : Course A) → n ≤ m → Counts n P x → Counts m P x
counts_more P n m (comes a s) le h = (h.0, let p : steps_in s < n = h.1 in omega arith)
counts_more P n m (stops k s) le h = (h.0, let p : steps_in s ≤ n = h.1 in omega arith)
counts_more P n m (asks a s rest) le h = (let p : steps_in s < n = h.0 in omega arith, h.1)

pub counts_then : {A B C D : Type 0} (P : A → B → Type 0) (Q : C → D → Type 0) (n : ℕ) (x : Course A) (f : A → Computation C) → Counts n P x → ((a : A) (b : B) → P a b → (s : State) → steps_in s < n → Counts (suc (steps_in s)) Q (f a s)) → Counts n Q (goes_to f x)
counts_then P Q n (comes a s) f h k = counts_more Q (suc (steps_in s)) n (f a s) (let p : steps_in s < n = h.1 in omega arith) (k a h.0.0 h.0.1 s h.1)
counts_then P Q n (stops j s) f h k = h
counts_then P Q n (asks a s rest) f h k =
    (h.0, λ r now le. counts_then P Q (suc (steps_in now)) (rest r now) f (h.1 r now le) (λ a' b p s' l. k a' b p s' (let q : steps_in s < n = h.0 in omega arith)))

-- computations of this kind, from every state with fewer steps left than a number
module _ (n : ℕ) where
  abbrev pub Counting : {A B : Type 0} → (A → B → Type 0) → Computation A → Computation B → Type 0
  Counting P m m' = (s : State) → steps_in s < n → Counts (suc (steps_in s)) P (m s)

  abbrev pub counting : Family
  counting = record {
    Lax = λ stop. ⊥;
    Meets = ⊥;
    Like = Counting;
    pures = λ P a b p s l. ((b, p), omega arith);
    halts = λ P stop o s l. (o, omega arith);
    meets = λ P m. absurd m;
    laxes = λ P stop m l. absurd l;
    thens = λ P Q m m' f g hm hf s l. counts_then P Q (suc (steps_in s)) (m s) f (hm s l) (λ a b p now k. hf a b p now (omega arith));
  }

lower : {A B : Type 0} (P : A → B → Type 0) (j n : ℕ) (m : Computation A) (m' : Computation B) → j ≤ n → Counting n P m m' → Counting j P m m'
lower P j n m m' le h s l = h s (omega arith)

-- ---- deeds

own_stop : (level line : ℕ) (fault : Fault) → IsOwn (stop_by level line fault)
own_stop level line (trap cause) = tt
own_stop level line no_such_object = tt

done_counts : {A B : Type 0} (P : A → B → Type 0) (level line : ℕ) (s : State) (x : Result (A × LevelState) Fault) (y : Result (B × LevelState) Fault) → FallsTo (level_in s level) x → Ended P x y → Counts (suc (steps_in s)) P (done level line s x)
done_counts P level line s (Ok x) (Ok y) l h = ((y.0, h.0), let p : steps_in (with_level s level x.1) ≤ steps_in s = no_more level s x.1 l in omega arith)
done_counts P level line s (Ok x) (Err d) l h = absurd h
done_counts P level line s (Err c) y l h = (own_stop level line c, omega arith)

within_counts : {A B : Type 0} (P : A → B → Type 0) (n level line : ℕ) (f : Deed A) (g : Deed B) → Falls f → Deeds P f g → Counting n P (within level line f) (within level line g)
unfolding within
within_counts {A} {B} P n level line f g w h s l = either (nat_lt level (length s))
  where
    either : (z : Bool) → Counts (suc (steps_in s)) P (if z then done level line s (f (level_in s level)) else stops meaningless s)
    either true = done_counts P level line s (f (level_in s level)) (g (level_in s level)) (w (level_in s level)) (h (level_in s level) (level_in s level) (level_refl (level_in s level)))
    either false = (tt, omega arith)

pub counting_respects : (n level : ℕ) → Respects (counting n) SamePlace level
counting_respects n level = places_respect (counting n) (λ A B P l line f g w h. within_counts P n l line f g w h) level

pub counting_asks : (n : ℕ) (a b : Ask) → Asks a b → Counting n Replies (asking a) (asking b)
counting_asks n a b h s l = (omega arith, λ r now le. ((r, replies_refl r), omega arith))
  where
    replies_refl : (r : Reply) → Replies r r
    replies_refl None = tt
    replies_refl (Some xs) = nums_refl xs

-- ---- courses that don't ask

-- one that stops by itself or comes, with no more steps left than a number
abbrev pub Comes : {A : Type 0} → ℕ → Course A → Type 0
Comes n (comes a s) = steps_in s ≤ n
Comes n (stops h s) = IsOwn h × (steps_in s ≤ n)
Comes n (asks a s rest) = ⊥

pub comes_then : {A C : Type 0} (n : ℕ) (x : Course A) (f : A → Computation C) → Comes n x → ((a : A) (s : State) → steps_in s ≤ n → Comes n (f a s)) → Comes n (goes_to f x)
comes_then n (comes a s) f h k = k a s h
comes_then n (stops j s) f h k = h
comes_then n (asks a s rest) f h k = absurd h

pub comes_counts : {A C D : Type 0} (Q : C → D → Type 0) (n : ℕ) (x : Course A) (f : A → Computation C) → Comes n x → ((a : A) (s : State) → steps_in s ≤ n → Counts n Q (f a s)) → Counts n Q (goes_to f x)
comes_counts Q n (comes a s) f h k = k a s h
comes_counts Q n (stops j s) f h k = h
comes_counts Q n (asks a s rest) f h k = absurd h

done_comes : {A : Type 0} (n level line : ℕ) (s : State) (x : Result (A × LevelState) Fault) → FallsTo (level_in s level) x → steps_in s ≤ n → Comes n (done level line s x)
done_comes n level line s (Ok x) h le = let p : steps_in (with_level s level x.1) ≤ steps_in s = no_more level s x.1 h in omega arith
done_comes n level line s (Err c) h le = (own_stop level line c, le)

pub within_comes : {A : Type 0} (n level line : ℕ) (f : Deed A) → Falls f → (s : State) → steps_in s ≤ n → Comes n (within level line f s)
unfolding within
within_comes {A} n level line f w s le = either (nat_lt level (length s))
  where
    either : (z : Bool) → Comes n (if z then done level line s (f (level_in s level)) else stops meaningless s)
    either true = done_comes n level line s (f (level_in s level)) (w (level_in s level)) le
    either false = (tt, le)

-- ---- a step that is counted: it stops, or comes with fewer steps left

abbrev pub Counted : ℕ → Course (Unit {0}) → Type 0
Counted n x = Counts {A = Unit {0}} {B = Unit {0}} n Any x

done_lowers : (level line : ℕ) (s : State) (x : Result (Unit {0} × LevelState) Fault) → Lower (level_in s level) x → Counted (steps_in s) (done level line s x)
done_lowers level line s (Ok x) h = ((tt, tt), fewer level s x.1 h)
done_lowers level line s (Err c) h = (own_stop level line c, omega arith)

pub count_counts : (level line : ℕ) (s : State) → Counted (steps_in s) (within level line count_step s)
unfolding within
count_counts level line s = either (nat_lt level (length s))
  where
    either : (z : Bool) → Counted (steps_in s) (if z then done level line s (count_step (level_in s level)) else stops meaningless s)
    either true = done_lowers level line s (count_step (level_in s level)) (count_lowers (level_in s level))
    either false = (tt, omega arith)

pub call_counts : (level line : ℕ) (s : State) → Counted (steps_in s) ((within level line begin_call >> within level line count_step) s)
call_counts level line s =
    comes_counts Any (steps_in s) (within level line begin_call s) (λ _. within level line count_step) (within_comes (steps_in s) level line begin_call begin_falls s (omega arith))
    (λ a t le. counts_more Any (steps_in t) (steps_in s) (within level line count_step t) le (count_counts level line t))

-- ---- loops

abbrev Flows : Ending → Ending → Type 0
Flows a b = Endings SamePlace a b

abbrev SameTest : Bool → Bool → Type 0
SameTest a b = a ≡ b

-- what a loop does behind its body
abbrev again : ℕ → ℕ → ℕ → Ending → Computation Bool → Computation Ending → Computation Ending → Computation Ending
again k level line f u m m' = m' >> rounds k f (within level line count_step >> u) m m'

-- A loop that may make as many rounds as there are steps left never meets its bound: each test takes a step.
pub loops_count : (k j : ℕ) → j ≤ k → (level : ℕ) → Loops (counting j) SamePlace level k k
loops_count zero j le level line f f' u v m m' n n' g h i o s l = absurd (omega arith)
loops_count (suc k) j le level line f f' u v m m' n n' g h i o s l =
    let now : Family = counting (steps_in s) in
    let less : steps_in s ≤ j = omega arith in
    counts_more Flows (steps_in s) (suc (steps_in s)) _ (omega arith)
    (counts_then SameTest Flows (steps_in s) ((within level line count_step >> u) s) _
    (counts_then Any SameTest (steps_in s) (within level line count_step s) (λ _. u) (count_counts level line s) (λ a b p t q. h t (omega arith)))
    (λ a b p t q. alike_if now Flows a (m >>= looped f (again k level line f u m m')) (pure f) (n >>= looped f' (again k level line f' v n n')) (pure f')
    (alike_then now Flows Flows m n (looped f (again k level line f u m m')) (looped f' (again k level line f' v n n')) (lower Flows (steps_in s) j m n less i)
    (looped_like now SamePlace f f' (again k level line f u m m') (again k level line f' v n n') g
    (alike_then now Flows Flows m' n' (λ _. rounds k f (within level line count_step >> u) m m') (λ _. rounds k f' (within level line count_step >> v) n n') (lower Flows (steps_in s) j m' n' less o)
    (λ c d e. loops_count k (steps_in s) (omega arith) level line f f' u v m m' n n' g (lower SameTest (steps_in s) j u v less h) (lower Flows (steps_in s) j m n less i) (lower Flows (steps_in s) j m' n' less o)))))
    (alike_pure now Flows f f' g) t q))

-- ---- calls

module _ (source : Source) (across : Across) where
  -- calls of other levels, local calls, and calls of both kinds never meet a bound that is no lower than the steps left
  abbrev pub Crosses : ℕ → Type 0
  Crosses n = (here : Definition) (line : ℕ) (d : Definition) (xs ys : List Argument) → Args SamePlace xs ys → Counting (suc n) Same (across (local_call source n (call_at source across n)) here line d xs) (across (local_call source n (call_at source across n)) here line d ys)

  abbrev pub Locals : ℕ → Type 0
  Locals n = (d : Definition) (xs ys : List Argument) → Args SamePlace xs ys → Counting (suc n) Same (local_call source n (call_at source across n) d xs) (local_call source n (call_at source across n) d ys)

  abbrev pub CallsCount : ℕ → Type 0
  CallsCount n = (here : Definition) → CallsAlike (counting n) SamePlace All_known here (call_at source across n) (call_at source across n)

  -- the body of a function counts a step before all else
  pub body_counts : (n : ℕ) → CallsCount n → (d : Definition) (xs ys : List Argument) → Args SamePlace xs ys → (s : State) → steps_in s ≤ n → Counts (steps_in s) (Endings SamePlace) (body_run source n (call_at source across n) d xs s)
  body_counts n hc d xs ys h s le =
      counts_then (Envs SamePlace) (Endings SamePlace) (steps_in s) _ _
      (counts_then Any (Envs SamePlace) (steps_in s) _ (λ _. with_parameters d.level d.params xs (known_at source d.level)) (call_counts d.level d.line s)
      (λ a b p t q. LevelCalls.parameters_like (counting n) SamePlace source All_known (λ name. all_known (function_named source.functions name)) (λ z. Unit {0}) (λ l e. counting_respects n l) (λ l e. envs_refl (known_at source l)) (λ l i b q. bound_refl b) d tt d.params xs ys h _ _ (envs_refl (known_at source d.level)) t (omega arith)))
      (λ e e' g t q. LevelCalls.statements_like (counting n) SamePlace source All_known (λ name. all_known (function_named source.functions name)) (λ z. Unit {0}) (λ l i. counting_respects n l) (λ l i. envs_refl (known_at source l)) (λ l i b q. bound_refl b) n n (call_at source across n) (call_at source across n) d tt tt (loops_count n n (omega arith) d.level) (hc d) e e' g t (omega arith))

  pub local_counts : (n : ℕ) → CallsCount n → (d : Definition) (xs ys : List Argument) → Args SamePlace xs ys → (s : State) → steps_in s ≤ n → Counts (steps_in s) Same (local_call source n (call_at source across n) d xs s)
  unfolding local_call
  local_counts n hc d xs ys h s le =
      counts_then (Endings SamePlace) Same (steps_in s) (body_run source n (call_at source across n) d xs s) _ (body_counts n hc d xs ys h s le)
      (λ a b f t q. LevelCalls.behind_like (counting n) SamePlace source All_known (λ name. all_known (function_named source.functions name)) (λ z. Unit {0}) (λ l e. counting_respects n l) (λ l e. envs_refl (known_at source l)) (λ l i b q. bound_refl b) d tt xs ys h a b f t (omega arith))

  pub locals_count : (n : ℕ) → CallsCount n → Locals n
  locals_count n hc d xs ys h s l = counts_more Same (steps_in s) (suc (steps_in s)) _ (omega arith) (local_counts n hc d xs ys h s (omega arith))

  -- What calls do never meets the bound, where calls of other levels don't if local calls don't.
  module _ (crosses : (n : ℕ) → Locals n → Crosses n) where
    pub calls_count : (n : ℕ) → CallsCount n
    unfolding call_at
    calls_count zero here line d kd xs ys h s l = absurd (omega arith)
    calls_count (suc n) here line d kd xs ys h s l =
        LevelCalls.chosen_like (counting (suc n)) SamePlace source All_known (λ name. all_known (function_named source.functions name)) (λ z. Unit {0}) (λ l e. counting_respects (suc n) l) (λ l e. envs_refl (known_at source l)) (λ l i b q. bound_refl b) across across
        (local_call source n (call_at source across n)) (local_call source n (call_at source across n)) here line d tt xs ys h (λ e. locals_count n (calls_count n) d xs ys h) (crosses n (locals_count n (calls_count n)) here line d xs ys h) s l
