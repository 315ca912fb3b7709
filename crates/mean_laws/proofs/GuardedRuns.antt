-- The guarded run forgets labels, and a higher bound changes nothing: two courses that go side by side, followed with laws that are
-- the same, have the same crossings, the same outputs and the same end.
use Rattle.std.proofs.Common.{◌≡◌, ℕ, zero, suc, ◌≤◌, arith, List, [], ◌∷◌, refl, subst, sym, ap, ◌∙◌, Result, Ok, Err, Bool, true, false, Option, Some, None, ◌⊎◌, inl, inr}
use Rattle.cl_mean.specs.declared.labels.Entry.{Entry}
use Rattle.cl_mean.specs.declared.law.Law.{Law}
use Rattle.cl_mean.specs.declared.law.Ruling.{Ruling}
use Rattle.cl_mean.specs.declared.law.Ruling.TheVariants as ruling
use Rattle.cl_mean.specs.Value.{Labelled, bare}
use Rattle.cl_mean.specs.Shape.{kinds_of}
use Rattle.cl_mean.specs.State.{State}
use Rattle.cl_mean.specs.Source.{Definition, Source, known_at, function_named, payload_of}
use Rattle.cl_mean.specs.Course.{Course, comes, stops, asks, Stop, unbounded, Ask, Reply}
use Rattle.cl_mean.specs.Evaluation.{Argument}
use Rattle.cl_mean.specs.Calls.{far, call_at, local_call, body_run}
use Rattle.cl_mean.specs.Judging.{Judged, laws_judge, directive}
use Rattle.cl_mean.specs.Guarded.{Content, holds, blocked, broken, Kept, crossed, fitted, with_laws, unless_blocked, judging, let_through, judged_by, GuardedRun, Serves, Goes, replied, answered_by, served_then, requested, guarded, serves_at}
use Rattle.mean_laws.specs.Runs.{SameResult}
use Rattle.mean_laws.proofs.Alike.{by_states, sides_ask, Nums, Endings, Replies, Asks, Same, Ends, Bounds, less, Args, All_known, all_known, CallsAlike}
use Rattle.mean_laws.proofs.Expressions.{two_same}
use Rattle.mean_laws.proofs.AllLevels.{LevelsAll, SamePlace, envs_refl, bound_refl, all_respect, JudgedSame, laws_same, Contents, crossings_more, Between}
use Rattle.mean_laws.proofs.LevelCalls
use Rattle.mean_laws.proofs.FarCalls

-- ---- judging

judging_by : Bool → List Labelled → Law → List Law → ℕ → Definition → Entry → Judged (List Law) Labelled
judging_by reply xs law houses from d entry =
    laws_judge bare (fitted (kinds_of (payload_of d reply))) (directive entry (payload_of d reply) reply ∷ (law ∷ houses)) (record { from = from; to = d.level; function = d.index; reply = reply }) xs

judging_is : (g : Kept) (a : Ask) (reply : Bool) (xs : List Labelled) → judging g a reply xs ≡ judging_by reply xs g.law g.houses a.from a.callee a.entry
unfolding judging judging_by
judging_is g a reply xs = refl

by_same : (reply : Bool) (xs ys : List Labelled) (law : Law) (houses : List Law) (from : ℕ) (d : Definition) (entry : Entry) → Nums xs ys → JudgedSame (judging_by reply xs law houses from d entry) (judging_by reply ys law houses from d entry)
unfolding judging_by
by_same reply xs ys law houses from d entry n = laws_same (kinds_of (payload_of d reply)) _ _ xs ys n

pub judging_same : (g h : Kept) (a b : Ask) (reply : Bool) (xs ys : List Labelled) → Between g h → Asks a b → Nums xs ys → JudgedSame (judging g a reply xs) (judging h b reply ys)
judging_same g h a b reply xs ys i k n =
    let e : judging_by reply ys g.law g.houses a.from a.callee a.entry ≡ judging_by reply ys h.law h.houses b.from b.callee b.entry =
    two_same (λ (law : Law) (houses : List Law). judging_by reply ys law houses a.from a.callee a.entry) g.law h.law g.houses h.houses i.0 i.1
    ∙ two_same (λ (from : ℕ) (d : Definition). judging_by reply ys h.law h.houses from d a.entry) a.from b.from a.callee b.callee k.0 k.2
    ∙ ap (λ (z : Entry). judging_by reply ys h.law h.houses b.from b.callee z) k.3 in
    subst (λ (z : Judged (List Law) Labelled). JudgedSame z (judging h b reply ys)) (sym (judging_is g a reply xs))
    (subst (λ (z : Judged (List Law) Labelled). JudgedSame (judging_by reply xs g.law g.houses a.from a.callee a.entry) z) (e ∙ sym (judging_is h b reply ys)) (by_same reply xs ys g.law g.houses a.from a.callee a.entry n))

unless_same : (r : Ruling) (xs ys : List Labelled) → Nums xs ys → Replies (unless_blocked r xs) (unless_blocked r ys)
unless_same ruling.Pass xs ys h = h
unless_same ruling.Block xs ys h = tt

pub let_same : (i j : Judged (List Law) Labelled) → JudgedSame i j → Replies (let_through i) (let_through j)
let_same i j h = subst (λ (z : Ruling). Replies (unless_blocked i.ruling i.values) (unless_blocked z j.values)) h.0 (unless_same i.ruling i.values j.values h.2)

with_laws_same : (ls : List Law) (a b : Kept) → Between a b → Between (with_laws ls a) (with_laws ls b)
with_laws_same [] a b h = h
with_laws_same (x ∷ []) a b h = h
with_laws_same (x ∷ (y ∷ ls)) a b h = (refl, refl, h.2)

pub judged_same : (i j : Judged (List Law) Labelled) → JudgedSame i j → (g h : Kept) → Between g h → Between (judged_by i g) (judged_by j h)
judged_same i j e g h b = subst (λ (z : List Law). Between (with_laws i.law g) (with_laws z h)) e.1 (with_laws_same i.law g h b)

pub crossed_same : (g h : Kept) (a b : Ask) (reply : Bool) (c d : Content Labelled) → Between g h → Asks a b → Contents c d → Between (crossed g a reply c) (crossed h b reply d)
crossed_same g h a b reply c d i k n = (i.0, i.1, crossings_more g.crossings h.crossings _ _ i.2 (k.1, refl, n))

-- ---- the run

module _ (Lax : Stop → Type 0) where
  abbrev pub Outs : {A B : Type 0} → (A → B → Type 0) → Type 0 → Result A Stop → Result B Stop → Type 0
  Outs P S x y = SameResult Lax P S x y

  -- two runs come to the same
  abbrev pub Out : {A B : Type 0} → (A → B → Type 0) → GuardedRun A → GuardedRun B → Type 0
  Out P r q = Outs P (LevelsAll r.levels q.levels × Between r.kept q.kept) r.result q.result

  abbrev pub ServesAlike : Serves → Serves → Type 0
  ServesAlike f f' = (d : Definition) (xs ys : List Labelled) → Nums xs ys → (s t : State) → LevelsAll s t → (g h : Kept) → Between g h → Out Nums (f d xs s g) (f' d ys t h)

  abbrev pub GoesAlike : {A B : Type 0} → (A → B → Type 0) → Goes A → Goes B → Type 0
  GoesAlike P k k' = (r q : Reply) → Replies r q → (s t : State) → LevelsAll s t → (g h : Kept) → Between g h → Out P (k r s g) (k' q t h)

  out_lax : {A B : Type 0} (P : A → B → Type 0) (S : Type 0) (h : Stop) (y : Result B Stop) → Lax h → Outs P S (Err h) y
  out_lax P S h (Ok b) l = l
  out_lax P S h (Err k) l = inl l

  replied_alike : {A B : Type 0} (P : A → B → Type 0) (a b : Ask) → Asks a b → (k : Goes A) (k' : Goes B) → GoesAlike P k k' → (s t : State) → LevelsAll s t → (g h : Kept) → Between g h → (o q : Option (List Labelled)) → Replies o q → Out P (replied a k s g o) (replied b k' t h q)
  replied_alike P a b e k k' hk s t l g h i None None n = hk None None tt s t l _ _ (crossed_same g h a b true blocked blocked i e tt)
  replied_alike P a b e k k' hk s t l g h i None (Some vs) n = absurd n
  replied_alike P a b e k k' hk s t l g h i (Some us) None n = absurd n
  replied_alike P a b e k k' hk s t l g h i (Some us) (Some vs) n = hk (Some us) (Some vs) n s t l _ _ (crossed_same g h a b true (holds us) (holds vs) i e n)

  stop_alike : {A B : Type 0} (P : A → B → Type 0) (a b : Ask) → Asks a b → (x y : Stop) (s t : State) (g h : Kept) → Lax x ⊎ ((x ≡ y) × (LevelsAll s t × Between g h)) → Lax x ⊎ ((x ≡ y) × (LevelsAll s t × Between (crossed g a true broken) (crossed h b true broken)))
  stop_alike P a b e x y s t g h (inl l) = inl l
  stop_alike P a b e x y s t g h (inr q) = inr (q.0, (q.1.0, crossed_same g h a b true broken broken q.1.1 e tt))

  answered_alike : {A B : Type 0} (P : A → B → Type 0) (a b : Ask) → Asks a b → (k : Goes A) (k' : Goes B) → GoesAlike P k k' → (s t : State) (g h : Kept) (x y : Result (List Labelled) Stop) → Outs Nums (LevelsAll s t × Between g h) x y → Out P (answered_by a k s g x) (answered_by b k' t h y)
  answered_alike P a b e k k' hk s t g h (Ok us) (Ok vs) o =
      let j : JudgedSame (judging g a true us) (judging h b true vs) = judging_same g h a b true us vs o.1.1 e o.0 in
      replied_alike P a b e k k' hk s t o.1.0 _ _ (judged_same _ _ j g h o.1.1) _ _ (let_same _ _ j)
  answered_alike P a b e k k' hk s t g h (Ok us) (Err y) o = absurd o
  answered_alike P a b e k k' hk s t g h (Err x) (Ok vs) o = out_lax P _ x (answered_by b k' t h (Ok vs)).result o
  answered_alike P a b e k k' hk s t g h (Err x) (Err y) o = stop_alike P a b e x y s t g h o

  served_alike : {A B : Type 0} (P : A → B → Type 0) (a b : Ask) → Asks a b → (k : Goes A) (k' : Goes B) → GoesAlike P k k' → (r q : GuardedRun (List Labelled)) → Out Nums r q → Out P (served_then a k r) (served_then b k' q)
  served_alike P a b e k k' hk r q o = answered_alike P a b e k k' hk r.levels q.levels r.kept q.kept r.result q.result o

  requested_alike : {A B : Type 0} (P : A → B → Type 0) (f f' : Serves) → ServesAlike f f' → (a b : Ask) → Asks a b → (k : Goes A) (k' : Goes B) → GoesAlike P k k' → (s t : State) → LevelsAll s t → (g h : Kept) → Between g h → (o q : Option (List Labelled)) → Replies o q → Out P (requested f a k s g o) (requested f' b k' t h q)
  requested_alike P f f' hf a b e k k' hk s t l g h i None None n = hk None None tt s t l _ _ (crossed_same _ _ a b true blocked blocked (crossed_same g h a b false blocked blocked i e tt) e tt)
  requested_alike P f f' hf a b e k k' hk s t l g h i None (Some vs) n = absurd n
  requested_alike P f f' hf a b e k k' hk s t l g h i (Some us) None n = absurd n
  requested_alike P f f' hf a b e k k' hk s t l g h i (Some us) (Some vs) n =
      served_alike P a b e k k' hk (f a.callee us s (crossed g a false (holds us))) (f' b.callee vs t (crossed h b false (holds vs)))
      (subst (λ (d : Definition). Out Nums (f a.callee us s (crossed g a false (holds us))) (f' d vs t (crossed h b false (holds vs)))) e.2
      (hf a.callee us vs n s t l _ _ (crossed_same g h a b false (holds us) (holds vs) i e n)))

  halt_alike : {A B : Type 0} (P : A → B → Type 0) (x y : Stop) (s t : State) (g h : Kept) → Between g h → Lax x ⊎ ((x ≡ y) × LevelsAll s t) → Lax x ⊎ ((x ≡ y) × (LevelsAll s t × Between g h))
  halt_alike P x y s t g h i (inl l) = inl l
  halt_alike P x y s t g h i (inr q) = inr (q.0, (q.1, i))

  -- Courses side by side, laws that are the same: the guarded runs come to the same.
  pub guarded_alike : {A B : Type 0} (P : A → B → Type 0) (f f' : Serves) → ServesAlike f f' → (x : Course A) (y : Course B) → Ends LevelsAll Lax P x y → (g h : Kept) → Between g h → Out P (guarded f x g) (guarded f' y h)
  unfolding guarded
  guarded_alike P f f' hf (comes a s) (comes b t) e g h i = (e.0, (e.1, i))
  guarded_alike P f f' hf (comes a s) (stops y t) e g h i = absurd e
  guarded_alike P f f' hf (comes a s) (asks b t k') e g h i = absurd e
  guarded_alike P f f' hf (stops x s) (comes b t) e g h i = e
  guarded_alike P f f' hf (stops x s) (stops y t) e g h i = halt_alike P x y s t g h i e
  guarded_alike P f f' hf (stops x s) (asks b t k') e g h i = out_lax P _ x (guarded f' (asks b t k') h).result e
  guarded_alike P f f' hf (asks a s k) (comes b t) e g h i = absurd e
  guarded_alike P f f' hf (asks a s k) (stops y t) e g h i = absurd e
  guarded_alike P f f' hf (asks a s k) (asks b t k') e g h i =
      let j : JudgedSame (judging g a false a.values) (judging h b false b.values) = judging_same g h a b false a.values b.values i e.0 e.0.4 in
      requested_alike P f f' hf a b e.0 (λ r now w. guarded f (k r now) w) (λ r now w. guarded f' (k' r now) w)
      (λ r q n s' t' l g' h' i'. guarded_alike P f f' hf (k r s') (k' q t') (e.2 r q n s' t' l) g' h' i')
      s t e.1 _ _ (judged_same _ _ j g h i) _ _ (let_same _ _ j)

  module _ (source : Source) where
    pub calls_all : (n n' : ℕ) → Bounds Lax n n' → (here : Definition) → CallsAlike (by_states LevelsAll Lax) SamePlace All_known here (call_at source (far source) n) (call_at source (far source) n')
    calls_all n n' b here =
        LevelCalls.calls_alike (by_states LevelsAll Lax) SamePlace source All_known (λ name. all_known (function_named source.functions name)) (λ z. Unit {0}) (λ l e. all_respect Lax l) (λ l e. envs_refl (known_at source l)) (λ l i b q. bound_refl b) tt (far source) (far source)
        (λ m m' bb hs f line d kd xs ys e h. FarCalls.far_like (by_states LevelsAll Lax) SamePlace source f.level (all_respect Lax f.level) (sides_ask LevelsAll Lax) (local_call source m (call_at source (far source) m)) (local_call source m' (call_at source (far source) m')) f line d xs ys refl h)
        n n' b here tt

    local_all : (n n' : ℕ) → Bounds Lax n n' → (d : Definition) (xs ys : List Argument) → Args SamePlace xs ys → (s t : State) → LevelsAll s t → Ends LevelsAll Lax Same (local_call source n (call_at source (far source) n) d xs s) (local_call source n' (call_at source (far source) n') d ys t)
    local_all n n' b d xs ys h =
        LevelCalls.local_like (by_states LevelsAll Lax) SamePlace source All_known (λ name. all_known (function_named source.functions name)) (λ z. Unit {0}) (λ l e. all_respect Lax l) (λ l e. envs_refl (known_at source l)) (λ l i b q. bound_refl b) tt n n' b (call_at source (far source) n) (call_at source (far source) n') d tt tt (calls_all n n' b d) xs ys h

    pub serves_alike : (n n' : ℕ) → Bounds Lax n n' → (m m' : ℕ) → Bounds Lax m m' → ServesAlike (serves_at source n m) (serves_at source n' m')
    unfolding serves_at
    serves_alike n n' b zero zero q d xs ys e s t l g h i = inr (refl, (l, i))
    serves_alike n n' b zero (suc m') q d xs ys e s t l g h i = out_lax Nums _ unbounded (serves_at source n' (suc m') d ys t h).result (q.1 (omega arith))
    serves_alike n n' b (suc m) zero q d xs ys e s t l g h i = let p : suc m ≤ 0 = q.0 in absurd (omega arith)
    serves_alike n n' b (suc m) (suc m') q d xs ys e s t l g h i =
        guarded_alike Nums (serves_at source n m) (serves_at source n' m') (serves_alike n n' b m m' (less Lax m m' q)) _ _
        (FarCalls.served_like (by_states LevelsAll Lax) SamePlace source d.level (all_respect Lax d.level) (sides_ask LevelsAll Lax) (local_call source n (call_at source (far source) n)) (local_call source n' (call_at source (far source) n')) d refl (local_all n n' b d) xs ys e s t l)
        g h i

    -- `main` by far calls: two courses of it go side by side
    pub main_alike : (n n' : ℕ) → Bounds Lax n n' → (d : Definition) → (s t : State) → LevelsAll s t → Ends LevelsAll Lax (Endings SamePlace) (body_run source n (call_at source (far source) n) d [] s) (body_run source n' (call_at source (far source) n') d [] t)
    main_alike n n' b d =
        LevelCalls.body_like (by_states LevelsAll Lax) SamePlace source All_known (λ name. all_known (function_named source.functions name)) (λ z. Unit {0}) (λ l e. all_respect Lax l) (λ l e. envs_refl (known_at source l)) (λ l i b q. bound_refl b) tt n n' b (call_at source (far source) n) (call_at source (far source) n') d tt tt (calls_all n n' b d) [] [] tt

    -- So the guarded runs of `main` under a bound and under a higher one, from states that are the same but for labels, with the same
    -- laws, have the same crossings, numbers, outputs and end, but where the first is stopped by its own bound.
    pub runs_alike : (n n' : ℕ) → Bounds Lax n n' → (d : Definition) → (s t : State) → LevelsAll s t → (g h : Kept) → Between g h
        → Out (Endings SamePlace) (guarded (serves_at source n n) (body_run source n (call_at source (far source) n) d [] s) g) (guarded (serves_at source n' n') (body_run source n' (call_at source (far source) n') d [] t) h)
    runs_alike n n' b d s t l g h i =
        guarded_alike (Endings SamePlace) (serves_at source n n) (serves_at source n' n') (serves_alike n n' b n n' b) _ _ (main_alike n n' b d s t l) g h i
