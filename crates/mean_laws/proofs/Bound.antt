-- The bound of a run, the steps of all levels and one more, is never met: neither by the guarded run nor by the plain one.
use Rattle.std.proofs.Common.{◌≡◌, ℕ, zero, suc, ◌+◌, ◌*◌, ◌<◌, ◌≤◌, arith, List, [], ◌∷◌, ◌++◌, length, ◌==◌, if◌then◌else◌, refl, subst, sym, ap, Bool, true, false, Result, Ok, Err, Option, Some, None, inl, inr}
use Rattle.std.proofs.Math.Nat.{zero-mul, suc-mul}
use Rattle.cl_mean.specs.declared.checked.Checked.{Checked}
use Rattle.cl_mean.specs.declared.law.Law.{Law}
use Rattle.cl_mean.specs.Value.{Labelled, Value, leaves}
use Rattle.cl_mean.specs.Shape.{Shape, nothing, integer, struct, array, count_of, value_from}
use Rattle.cl_mean.specs.State.{State, make}
use Rattle.cl_mean.specs.Source.{Parameter, Definition, Source, Static, source_of, main_of, function_named, request_of}
use Rattle.cl_mean.specs.Course.{Course, comes, stops, asks, Stop, unbounded, meaningless, Ask, Reply, pure, halted, within, made, ◌>>=◌}
use Rattle.cl_mean.specs.Evaluation.{Argument, given, lent, Scope}
use Rattle.cl_mean.specs.Execution.{filled}
use Rattle.cl_mean.specs.Calls.{Across, far, unguarded, call_at, local_call, fresh, all_fresh, array_values, served_with, served, body_run}
use Rattle.cl_mean.specs.Guarded.{Kept, crossed, holds, blocked, judging, let_through, judged_by, GuardedRun, Serves, Goes, replied, answered_by, served_then, requested, guarded, serves_at}
use Rattle.cl_mean.specs.Meaning.{level_at, levels_from, no_calls, no_function, all_filled, filled_state, start_of, bound_of, exit_value, main_run, main_course, plain_run, guarded_run, guarded_start}
use Rattle.mean_laws.specs.Runs.{Never, NeverAsks, IsUnbounded, SameResult, SameOutcome, Unmet, run_from}
use Rattle.mean_laws.specs.Alike.{LevelsAll, SideBySide}
use Rattle.mean_laws.proofs.Alike.{IsOwn, Same, same_refl, Nums, Any, alike_pure, alike_halt, alike_then, Args, Endings, All_known, all_known, CallsAlike}
use Rattle.mean_laws.proofs.AllLevels.{SamePlace}
use Rattle.mean_laws.proofs.StepsLeft.{steps_in, make_falls}
use Rattle.mean_laws.proofs.Counting.{Counts, counts_more, counts_then, counting, Counting, counting_respects, counting_asks, Comes, comes_then, comes_counts, within_comes, Crosses, Locals, CallsCount, body_counts, local_counts, calls_count}
use Rattle.mean_laws.proofs.PlainRuns.{unguarded_like, plain_never_asks}
use Rattle.mean_laws.proofs.WholeRuns.{greater, plain_greater}
use Rattle.mean_laws.proofs.Exits.{exit_like}
use Rattle.mean_laws.proofs.FarCalls
use Rattle.mean_laws.proofs.Statements

-- ---- calls of other levels

far_crosses : (source : Source) (n : ℕ) → Locals source (far source) n → Crosses source (far source) n
far_crosses source n hs here line d xs ys h =
    FarCalls.far_like (counting (suc n)) SamePlace source here.level (counting_respects (suc n) here.level) (counting_asks (suc n)) (local_call source n (call_at source (far source) n)) (local_call source n (call_at source (far source) n)) here line d xs ys refl h

unguarded_crosses : (source : Source) (n : ℕ) → Locals source (unguarded source) n → Crosses source (unguarded source) n
unguarded_crosses source n hs =
    unguarded_like (counting (suc n)) (counting_respects (suc n)) source (local_call source n (call_at source (unguarded source) n)) (local_call source n (call_at source (unguarded source) n)) hs

pub far_count : (source : Source) (n : ℕ) → CallsCount source (far source) n
far_count source n = calls_count source (far source) (far_crosses source) n

pub unguarded_count : (source : Source) (n : ℕ) → CallsCount source (unguarded source) n
unguarded_count source n = calls_count source (unguarded source) (unguarded_crosses source) n

-- ---- serving

args_refl : (xs : List Argument) → Args SamePlace xs xs
args_refl [] = tt
args_refl (given v ∷ xs) = (same_refl v, args_refl xs)
args_refl (lent s ∷ xs) = ((refl, refl), args_refl xs)

made_comes : (n level : ℕ) (v : Value) (s : State) → steps_in s ≤ n → Comes n (made level v s)
made_comes n level v s le = comes_then n (within level 0 (make (record { own = []; value = v })) s) _ (within_comes n level 0 (make (record { own = []; value = v })) (make_falls (record { own = []; value = v })) s le) (λ k t q. q)

fresh_comes : (n level : ℕ) (shape : Shape) (v : Value) (s : State) → steps_in s ≤ n → Comes n (fresh level shape v s)
fresh_comes n level (array element size) v s le = comes_then n (made level v s) _ (made_comes n level v s le) (λ place t q. q)
fresh_comes n level nothing v s le = le
fresh_comes n level (integer kind) v s le = le
fresh_comes n level (struct ms) v s le = le

all_fresh_comes : (n level : ℕ) (ps : List Parameter) (xs : List Labelled) (s : State) → steps_in s ≤ n → Comes n (all_fresh level ps xs s)
all_fresh_comes n level [] xs s le = le
all_fresh_comes n level (p ∷ ps) xs s le =
    comes_then n (fresh level p.shape (value_from p.shape xs).0 s) _ (fresh_comes n level p.shape (value_from p.shape xs).0 s le) (λ a t q.
    comes_then n (all_fresh level ps (value_from p.shape xs).1 t) _ (all_fresh_comes n level ps (value_from p.shape xs).1 t q) (λ args u z. z))

module _ (source : Source) (n : ℕ) where
  values_count : (d : Definition) (xs : List Argument) → Counting n Nums (array_values xs) (array_values xs)
  values_count d xs = FarCalls.array_values_like (counting n) SamePlace source d.level (counting_respects n d.level) (counting_asks n) xs xs (args_refl xs)

  behind_count : (d : Definition) (args : List Argument) (v : Value) → Counting n Nums (array_values args >>= λ ys. pure (leaves v ++ ys)) (array_values args >>= λ ys. pure (leaves v ++ ys))
  behind_count d args v = alike_then (counting n) Nums Nums (array_values args) (array_values args) (λ ys. pure (leaves v ++ ys)) (λ ys. pure (leaves v ++ ys)) (values_count d args) (λ xs ys p. alike_pure (counting n) Nums _ _ (FarCalls.nums_refl (leaves v ++ xs)))

  with_counts : (d : Definition) (xs : List Labelled) (s : State) → steps_in s ≤ n → Counts {B = List Labelled} (steps_in s) Nums (served_with (local_call source n (call_at source (far source) n)) d xs s)
  with_counts d xs s le =
      comes_counts Nums (steps_in s) (all_fresh d.level d.params xs s) _ (all_fresh_comes (steps_in s) d.level d.params xs s (omega arith)) (λ args t q.
      counts_more Nums (steps_in t) (steps_in s) _ q
      (counts_then Same Nums (steps_in t) (local_call source n (call_at source (far source) n) d args t) _ (local_counts source (far source) n (far_count source n) d args args (args_refl args) t (omega arith)) (λ v w p u z.
      behind_count d args v u (omega arith))))

  -- A level that serves a request counts a step before it asks.
  pub served_counts : (d : Definition) (xs : List Labelled) (s : State) → steps_in s ≤ n → Counts {B = List Labelled} (steps_in s) Nums (served (local_call source n (call_at source (far source) n)) d xs s)
  unfolding served
  served_counts d xs s le = either (length xs == count_of (request_of d))
    where
      either : (q : Bool) → Counts {B = List Labelled} (steps_in s) Nums ((if q then served_with (local_call source n (call_at source (far source) n)) d xs else halted meaningless) s)
      either true = with_counts d xs s le
      either false = (tt, omega arith)

-- ---- the guarded run

-- a run that stops by itself, or comes with fewer steps left than a number
abbrev pub Ran : {A : Type 0} → ℕ → State → Result A Stop → Type 0
Ran n s (Ok x) = steps_in s < n
Ran n s (Err stop) = IsOwn stop

abbrev pub RanTo : {A : Type 0} → ℕ → GuardedRun A → Type 0
RanTo n r = Ran n r.levels r.result

ran_more : {A : Type 0} (n m : ℕ) (s : State) (r : Result A Stop) → n ≤ m → Ran n s r → Ran m s r
ran_more n m s (Ok x) le h = omega arith
ran_more n m s (Err stop) le h = h

-- from every state with no more steps left than a number
abbrev pub GoesOn : {A : Type 0} → ℕ → Goes A → Type 0
GoesOn n again = (r : Reply) (s : State) → steps_in s ≤ n → (g : Kept) → RanTo (suc n) (again r s g)

abbrev pub ServesOn : ℕ → Serves → Type 0
ServesOn n serves = (d : Definition) (xs : List Labelled) (s : State) → steps_in s < n → (g : Kept) → RanTo (suc (steps_in s)) (serves d xs s g)

replied_ran : {A : Type 0} (n : ℕ) (a : Ask) (again : Goes A) → GoesOn n again → (s : State) → steps_in s ≤ n → (g : Kept) (o : Option (List Labelled)) → RanTo (suc n) (replied a again s g o)
replied_ran n a again h s le g None = h None s le (crossed g a true blocked)
replied_ran n a again h s le g (Some ys) = h (Some ys) s le (crossed g a true (holds ys))

answered_ran : {A : Type 0} (n : ℕ) (a : Ask) (again : Goes A) → GoesOn n again → (s : State) (g : Kept) (r : Result (List Labelled) Stop) → Ran (suc n) s r → RanTo (suc n) (answered_by a again s g r)
answered_ran n a again h s g (Ok ys) q = replied_ran n a again h s (omega arith) (judged_by (judging g a true ys) g) (let_through (judging g a true ys))
answered_ran n a again h s g (Err stop) q = q

requested_ran : {A : Type 0} (depth : ℕ) (serves : Serves) → ServesOn depth serves → (a : Ask) (again : Goes A) (s : State) → steps_in s < depth → GoesOn (steps_in s) again → (g : Kept) (o : Option (List Labelled)) → RanTo (suc (steps_in s)) (requested serves a again s g o)
requested_ran depth serves hs a again s l h g None = h None s (omega arith) (crossed (crossed g a false blocked) a true blocked)
requested_ran depth serves hs a again s l h g (Some xs) = served_ran (serves a.callee xs s (crossed g a false (holds xs))) (hs a.callee xs s l (crossed g a false (holds xs)))
  where
    served_ran : (r : GuardedRun (List Labelled)) → RanTo (suc (steps_in s)) r → RanTo (suc (steps_in s)) (served_then a again r)
    served_ran r q = answered_ran (steps_in s) a again h r.levels r.kept r.result q

-- A course that asks with fewer steps left than calls of other levels may nest is followed to its own stop or its end.
pub guarded_ran : {A B : Type 0} (P : A → B → Type 0) (depth : ℕ) (serves : Serves) → ServesOn depth serves → (n : ℕ) → n ≤ depth → (x : Course A) → Counts n P x → (g : Kept) → RanTo n (guarded serves x g)
unfolding guarded
guarded_ran P depth serves hs n le (comes a s) h g = h.1
guarded_ran P depth serves hs n le (stops stop s) h g = h.0
guarded_ran P depth serves hs n le (asks a s rest) h g =
    ran_more (suc (steps_in s)) n _ _ (let p : steps_in s < n = h.0 in omega arith)
    (requested_ran depth serves hs a (λ r now w. guarded serves (rest r now) w) s (let p : steps_in s < n = h.0 in omega arith)
    (λ r now q w. ran_more (suc (steps_in now)) (suc (steps_in s)) _ _ (omega arith) (guarded_ran P depth serves hs (suc (steps_in now)) (let p : steps_in s < n = h.0 in omega arith) (rest r now) (h.1 r now q) w))
    (judged_by (judging g a false a.values) g) (let_through (judging g a false a.values)))

pub serves_on : (source : Source) (n depth : ℕ) → depth ≤ suc n → ServesOn depth (serves_at source n depth)
unfolding serves_at
serves_on source n zero le d xs s l g = absurd (omega arith)
serves_on source n (suc depth) le d xs s l g =
    ran_more (steps_in s) (suc (steps_in s)) _ _ (omega arith)
    (guarded_ran Nums depth (serves_at source n depth) (serves_on source n depth (omega arith)) (steps_in s) (omega arith) _ (served_counts source n d xs s (omega arith)) g)

-- ---- the start

started_steps : {A : Type 0} (source : Source) (inputs : List (List ℕ)) (limit level : ℕ) (names : List A) → steps_in (levels_from (level_at source inputs limit) level names) ≡ length names * limit
started_steps source inputs limit level [] = sym (zero-mul limit)
started_steps source inputs limit level (name ∷ names) =
    let e : suc (length names) * limit ≡ length names * limit + limit = suc-mul (length names) limit in
    let i : steps_in (levels_from (level_at source inputs limit) (suc level) names) ≡ length names * limit = started_steps source inputs limit (suc level) names in
    omega arith

no_calls_count : (n : ℕ) → CallsAlike (counting n) SamePlace All_known no_function no_calls no_calls
no_calls_count n line d kd xs ys h = alike_halt (counting n) Same meaningless tt

filled_count : (source : Source) (n : ℕ) (ss : List Static) → Counting n {A = Unit {0}} {B = Unit {0}} Any (all_filled source ss) (all_filled source ss)
filled_count source n [] = alike_pure (counting n) {A = Unit {0}} {B = Unit {0}} Any (tt {0}) (tt {0}) (tt {0})
filled_count source n (s ∷ ss) =
    let scope : Scope = record { source = source; calls = no_calls; here = no_function } in
    alike_then (counting n) Any Any (filled scope [] s.init s.binding.shape s.binding.place) (filled scope [] s.init s.binding.shape s.binding.place) (λ _. all_filled source ss) (λ _. all_filled source ss)
    (Statements.filled_like (counting n) SamePlace source All_known (λ name. all_known (function_named source.functions name)) no_function no_calls no_calls (counting_respects n no_function.level) (no_calls_count n) [] [] tt s.init s.binding.shape s.binding.place s.binding.place refl)
    (λ a b p. filled_count source n ss)

filled_steps : {B : Type 0} (P : Unit {0} → B → Type 0) (n : ℕ) (x : Course (Unit {0})) → Counts n P x → steps_in (filled_state x) ≤ n
filled_steps P n (comes a s) h = let p : steps_in s < n = h.1 in omega arith
filled_steps P n (stops stop s) h = omega arith
filled_steps P n (asks a s rest) h = omega arith

pub start_steps : (checked : Checked) (inputs : List (List ℕ)) (limit : ℕ) → steps_in (start_of checked inputs limit) ≤ bound_of checked limit
unfolding start_of bound_of
start_steps checked inputs limit =
    let source : Source = source_of checked in
    let first : State = levels_from (level_at source inputs limit) 0 checked.labels.levels in
    let e : steps_in first ≡ length checked.labels.levels * limit = started_steps source inputs limit 0 checked.labels.levels in
    let l : steps_in (filled_state (all_filled source source.statics first)) ≤ suc (steps_in first) = filled_steps {B = Unit {0}} Any (suc (steps_in first)) (all_filled source source.statics first) (filled_count source (suc (steps_in first)) source.statics first (omega arith)) in
    omega arith

-- ---- runs of `main`

main_run_counts : (source : Source) (across : Across) (n : ℕ) → CallsCount source across n → (o : Option Definition) (s : State) → steps_in s ≤ n → Counts {B = List Labelled} (steps_in s) Nums (main_run source across n o s)
main_run_counts source across n hc None s le = (tt, omega arith)
main_run_counts source across n hc (Some d) s le =
    counts_then (Endings SamePlace) Nums (steps_in s) (body_run source n (call_at source across n) d [] s) exit_value (body_counts source across n hc d [] [] tt s le) (λ a b h t q. exit_like (counting n) SamePlace a b h t (omega arith))

pub main_counts : (checked : Checked) (across : Across) (n : ℕ) → CallsCount (source_of checked) across n → (s : State) → steps_in s ≤ n → Counts {B = List Labelled} (steps_in s) Nums (main_course checked across n s)
unfolding main_course
main_counts checked across n hc s le = main_run_counts (source_of checked) across n hc (main_of (source_of checked)) s le

-- ---- the laws

own_result : {A : Type 0} (n : ℕ) (s : State) (r : Result A Stop) → Ran n s r → r ≡ Err unbounded → ⊥
own_result n s r h e = subst (λ z. Ran n s z) e h

pub own_course : {A B : Type 0} (P : A → B → Type 0) (n : ℕ) (x : Course A) → Counts n P x → Unmet x
own_course P n x h s e = let k : Counts n P (stops unbounded s) = subst (λ z. Counts n P z) e h in k.0

pub guarded_unmet : (checked : Checked) (law : Law) (houses : List Law) (inputs : List (List ℕ)) (limit : ℕ) → (guarded_run checked law houses inputs limit).result ≡ Err unbounded → ⊥
unfolding guarded_run
guarded_unmet checked law houses inputs limit =
    let n : ℕ = bound_of checked limit in
    let source : Source = source_of checked in
    let s : State = start_of checked inputs limit in
    let le : steps_in s ≤ n = start_steps checked inputs limit in
    own_result (steps_in s) _ _ (guarded_ran Nums n (serves_at source n n) (serves_on source n n (omega arith)) (steps_in s) le (main_course checked (far source) n s) (main_counts checked (far source) n (far_count source n) s le) (guarded_start law houses))

pub plain_unmet : (checked : Checked) (inputs : List (List ℕ)) (limit : ℕ) → Unmet (plain_run checked inputs limit)
unfolding plain_run
plain_unmet checked inputs limit =
    let n : ℕ = bound_of checked limit in
    let source : Source = source_of checked in
    let s : State = start_of checked inputs limit in
    let le : steps_in s ≤ n = start_steps checked inputs limit in
    own_course Nums (steps_in s) _ (main_counts checked (unguarded source) n (unguarded_count source n) s le)

never_lax : {A B : Type 0} (P : A → B → Type 0) (S : Type 0) (x : Result A Stop) (y : Result B Stop) → (x ≡ Err unbounded → ⊥) → SameResult IsUnbounded P S x y → SameResult Never P S x y
never_lax P S (Ok a) (Ok b) ne h = h
never_lax P S (Ok a) (Err k) ne h = h
never_lax P S (Err j) (Ok b) ne h = ne (ap (λ (z : Stop). Err z) h)
never_lax P S (Err j) (Err k) ne (inl h) = inl (ne (ap (λ (z : Stop). Err z) h))
never_lax P S (Err j) (Err k) ne (inr h) = inr h

pub greater_same : (checked : Checked) (law : Law) (houses : List Law) (inputs : List (List ℕ)) (limit most : ℕ) → bound_of checked limit ≤ most → SameOutcome Never (guarded_run checked law houses inputs limit) (run_from checked law houses most (start_of checked inputs limit))
unfolding guarded_run
greater_same checked law houses inputs limit most le = never_lax Nums _ _ _ (guarded_unmet checked law houses inputs limit) (greater checked law houses (bound_of checked limit) most (start_of checked inputs limit) le)

never_beside : {A B : Type 0} (P : A → B → Type 0) (x : Course A) (y : Course B) → NeverAsks x → Unmet x → SideBySide LevelsAll IsUnbounded P x y → SideBySide LevelsAll Never P x y
never_beside P (comes a s) (comes b t) n u h = h
never_beside P (comes a s) (stops k t) n u h = h
never_beside P (comes a s) (asks b t g) n u h = h
never_beside P (stops j s) (comes b t) n u h = u s (ap (λ (k : Stop). stops k s) h)
never_beside P (stops j s) (stops k t) n u (inl h) = inl (u s (ap (λ (i : Stop). stops i s) h))
never_beside P (stops j s) (stops k t) n u (inr h) = inr h
never_beside P (stops j s) (asks b t g) n u h = u s (ap (λ (k : Stop). stops k s) h)
never_beside P (asks a s f) y n u h = absurd n

pub plain_same : (checked : Checked) (inputs : List (List ℕ)) (limit most : ℕ) → bound_of checked limit ≤ most → SideBySide LevelsAll Never Nums (plain_run checked inputs limit) (main_course checked (unguarded (source_of checked)) most (start_of checked inputs limit))
unfolding plain_run
plain_same checked inputs limit most le = never_beside Nums _ _ (plain_never_asks checked inputs limit) (plain_unmet checked inputs limit) (plain_greater checked (bound_of checked limit) most (start_of checked inputs limit) le)
