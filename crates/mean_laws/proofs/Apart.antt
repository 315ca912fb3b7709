-- The guarded run over one state, and over a state for each level. In the second each level has a state of its own, of which its own
-- part alone matters, and goes on from that one when it is answered, as a level's own run does. Where calls between levels go down in
-- rank, both have the same crossings, results and stops, and each level's part is the same in the end.
use Rattle.std.proofs.Common.{◌≡◌, ℕ, zero, suc, ◌<◌, ◌≤◌, ◌==◌, arith, Bool, true, false, true≢false, eqb-true, eq-eqb, List, [], refl, subst, sym, ap, ◌∙◌, Result, Ok, Err, Option, Some, None, if◌then◌else◌}
use Rattle.cl_tree.specs.Words.{Word}
use Rattle.cl_mean.specs.Value.{Labelled}
use Rattle.cl_mean.specs.State.{State, LevelState, level_in}
use Rattle.cl_mean.specs.Source.{Definition, Source, function_named}
use Rattle.cl_mean.specs.Course.{Course, comes, stops, asks, Stop, Ask, Reply}
use Rattle.cl_mean.specs.Calls.{far, call_at, local_call, body_run, served}
use Rattle.cl_mean.specs.Guarded.{holds, blocked, broken, Kept, crossed, judging, let_through, judged_by, GuardedRun, Serves, Goes, replied, answered_by, requested, guarded, serves_at}
use Rattle.mean_laws.specs.Apart.{Parts, put, Came, ServesApart, GoesApart, replied_apart, answered_apart, requested_apart, apart, apart_at, Outs, EachSame, AsksBelow, AboveStay, CameSame, ServeSame}
use Rattle.mean_laws.proofs.Alike.{Endings, Nums, Replies, Asks, MaybeKnown}
use Rattle.mean_laws.proofs.AllLevels.{JudgedSame, Between}
use Rattle.mean_laws.proofs.GuardedRuns.{judging_same, let_same, judged_same, crossed_same}
use Rattle.mean_laws.proofs.SameLevel.{Agree, AtLevel, One}
use Rattle.mean_laws.proofs.Keeps
use Rattle.mean_laws.proofs.Keeps.{Moves, Leaves}

-- ---- side by side

self : (n : ℕ) → (n == n) ≡ true
self n = eq-eqb n n refl

differ : (L M : ℕ) → (L == M) ≡ false → M ≡ L → ⊥
differ L M e q = true≢false (sym (self L) ∙ (ap (λ (z : ℕ). L == z) (sym q) ∙ e))

put_same : (mem : Parts) (L : ℕ) (s : State) → put mem L s L ≡ s
put_same mem L s = ap (λ (q : Bool). if q then s else mem L) (self L)

put_other : (mem : Parts) (L M : ℕ) (s : State) (q : Bool) → (L == M) ≡ q → (M ≡ L → ⊥) → (if q then s else mem M) ≡ mem M
put_other mem L M s true e ne = absurd (ne (sym (eqb-true L M e)))
put_other mem L M s false e ne = refl

outs_map : {A B : Type 0} (P : A → B → Type 0) (S U : Type 0) → (S → U) → (x : Result A Stop) (y : Result B Stop) → Outs P S x y → Outs P U x y
outs_map P S U f (Ok a) (Ok b) o = (o.0, f o.1)
outs_map P S U f (Ok a) (Err k) o = absurd o
outs_map P S U f (Err h) (Ok b) o = absurd o
outs_map P S U f (Err h) (Err k) o = (o.0, f o.1)

-- `count` levels, and a rank of each
module _ (count : ℕ) (rank : ℕ → ℕ) (Known : Definition → Type 0) where
  abbrev pub Each : State → Parts → Type 0
  Each s mem = EachSame count s mem

  abbrev pub Falls : {A : Type 0} → ℕ → Course A → Type 0
  Falls L x = AsksBelow count rank Known L x

  abbrev pub Above : ℕ → Parts → Parts → Type 0
  Above L m m' = AboveStay rank L m m'

  -- all of no lower rank than L are
  abbrev pub Firm : ℕ → Parts → Parts → Type 0
  Firm L m m' = (M : ℕ) → rank L ≤ rank M → m' M ≡ m M

  abbrev pub Out : {A B : Type 0} → (A → B → Type 0) → ℕ → Parts → GuardedRun A → Came B → Type 0
  Out P L mem r c = CameSame count rank P L mem r c

  abbrev pub ServesSame : Serves → ServesApart → Type 0
  ServesSame f f' = ServeSame count rank Known f f'

  abbrev pub GoesSame : {A B : Type 0} → (A → B → Type 0) → ℕ → Parts → Goes A → GoesApart B → Type 0
  GoesSame P L m k k' = (r q : Reply) → Replies r q → (s : State) (mem : Parts) → Each s mem → Firm L m mem → (g h : Kept) → Between g h → Out P L m (k r s g) (k' q mem h)

  each_moves : (L : ℕ) (s t s' t' : State) (mem : Parts) → Each s mem → Moves L s t s' t' → Each s' (put mem L t')
  each_moves L s t s' t' mem w m M lt = go (L == M) refl
    where
      go : (q : Bool) → (L == M) ≡ q → AtLevel M s' (if q then t' else mem M)
      go true e = subst (λ (z : ℕ). AtLevel z s' t') (eqb-true L M e) m.0
      go false e =
          let was : AtLevel M s (mem M) = w M lt in
          (subst (λ (n : ℕ). M < n) (sym m.1.0) was.0, was.1, subst (λ (l : LevelState). Agree l (level_in (mem M) M)) (sym (m.1.1 M (differ L M e))) was.2)

  firm_below : (L D : ℕ) (m mem now : Parts) → rank D < rank L → Firm L m mem → Above D mem now → Firm L m now
  firm_below L D m mem now lt f a M le = a M (omega (arith, lt, le)) (λ e. not_it M e le) ∙ f M le
    where
      not_it : (M : ℕ) → M ≡ D → rank L ≤ rank M → ⊥
      not_it M e le = let p : rank L ≤ rank D = subst (λ (z : ℕ). rank L ≤ rank z) e le in absurd (omega (arith, lt, p))

  replied_same : {A B : Type 0} (P : A → B → Type 0) (L : ℕ) (m : Parts) (a b : Ask) → Asks a b → (k : Goes A) (k' : GoesApart B) → GoesSame P L m k k' → (s : State) (mem : Parts) → Each s mem → Firm L m mem → (g h : Kept) → Between g h
      → (o q : Option (List Labelled)) → Replies o q → Out P L m (replied a k s g o) (replied_apart b k' mem h q)
  replied_same P L m a b e k k' hk s mem w f g h i None None n = hk None None tt s mem w f _ _ (crossed_same g h a b true blocked blocked i e tt)
  replied_same P L m a b e k k' hk s mem w f g h i None (Some vs) n = absurd n
  replied_same P L m a b e k k' hk s mem w f g h i (Some us) None n = absurd n
  replied_same P L m a b e k k' hk s mem w f g h i (Some us) (Some vs) n = hk (Some us) (Some vs) n s mem w f _ _ (crossed_same g h a b true (holds us) (holds vs) i e n)

  answered_same : {A B : Type 0} (P : A → B → Type 0) (L : ℕ) (m : Parts) (a b : Ask) → Asks a b → (k : Goes A) (k' : GoesApart B) → GoesSame P L m k k' → (s : State) (mem : Parts) (g h : Kept)
      → (x y : Result (List Labelled) Stop) → Outs Nums (Each s mem × Between g h × Firm L m mem) x y → Out P L m (answered_by a k s g x) (answered_apart b k' mem h y)
  answered_same P L m a b e k k' hk s mem g h (Ok us) (Ok vs) o =
      let j : JudgedSame (judging g a true us) (judging h b true vs) = judging_same g h a b true us vs o.1.1 e o.0 in
      replied_same P L m a b e k k' hk s mem o.1.0 o.1.2 _ _ (judged_same _ _ j g h o.1.1) _ _ (let_same _ _ j)
  answered_same P L m a b e k k' hk s mem g h (Ok us) (Err y) o = absurd o
  answered_same P L m a b e k k' hk s mem g h (Err x) (Ok vs) o = absurd o
  answered_same P L m a b e k k' hk s mem g h (Err x) (Err y) o = (o.0, (o.1.0, crossed_same g h a b true broken broken o.1.1 e tt, λ M le ne. o.1.2 M le))

  requested_same : {A B : Type 0} (P : A → B → Type 0) (f : Serves) (f' : ServesApart) → ServesSame f f' → (L : ℕ) (m : Parts) (a b : Ask) → Asks a b → Known a.callee × (a.callee.level < count) → rank a.callee.level < rank L
      → (k : Goes A) (k' : GoesApart B) → GoesSame P L m k k' → (s : State) (mem : Parts) → Each s mem → Firm L m mem → (g h : Kept) → Between g h → (o q : Option (List Labelled)) → Replies o q → Out P L m (requested f a k s g o) (requested_apart f' b k' mem h q)
  requested_same P f f' hs L m a b e lt down k k' hk s mem w fm g h i None None n = hk None None tt s mem w fm _ _ (crossed_same _ _ a b true blocked blocked (crossed_same g h a b false blocked blocked i e tt) e tt)
  requested_same P f f' hs L m a b e lt down k k' hk s mem w fm g h i None (Some vs) n = absurd n
  requested_same P f f' hs L m a b e lt down k k' hk s mem w fm g h i (Some us) None n = absurd n
  requested_same P f f' hs L m a b e lt down k k' hk s mem w fm g h i (Some us) (Some vs) n =
      let g' : Kept = crossed g a false (holds us) in
      let h' : Kept = crossed h b false (holds vs) in
      let r : GuardedRun (List Labelled) = f a.callee us s g' in
      let c : Came (List Labelled) = f' b.callee vs mem h' in
      let o : Out Nums a.callee.level mem r c = subst (λ (d : Definition). Out Nums a.callee.level mem (f a.callee us s g') (f' d vs mem h')) e.2 (hs a.callee lt us vs n s mem w g' h' (crossed_same g h a b false (holds us) (holds vs) i e n)) in
      answered_same P L m a b e k k' hk r.levels c.parts r.kept c.kept r.result c.result
      (outs_map Nums (Each r.levels c.parts × Between r.kept c.kept × Above a.callee.level mem c.parts) (Each r.levels c.parts × Between r.kept c.kept × Firm L m c.parts)
      (λ z. (z.0, z.1, firm_below L a.callee.level m mem c.parts down fm z.2)) r.result c.result o)

  -- A course of level L from the one state, and the one beside it from the level's own state.
  pub weave : {A B : Type 0} (P : A → B → Type 0) (f : Serves) (f' : ServesApart) → ServesSame f f' → (L : ℕ) → L < count → (x : Course A) (y : Course B) (s t : State) (mem : Parts) → Leaves L P s t x y → Falls L x → Each s mem → (g h : Kept) → Between g h
      → Out P L mem (guarded f x g) (apart f' L y mem h)
  unfolding guarded
  weave P f f' hs L lt (comes a s') (comes b t') s t mem kp fl w g h i = (kp.0, (each_moves L s t s' t' mem w kp.1, i, λ M le ne. put_other mem L M t' (L == M) refl ne))
  weave P f f' hs L lt (stops x s') (stops y t') s t mem kp fl w g h i = (kp.0, (each_moves L s t s' t' mem w kp.1, i, λ M le ne. put_other mem L M t' (L == M) refl ne))
  weave {A} {B} P f f' hs L lt (asks a s' k) (asks b t' k') s t mem kp fl w g h i =
      let j : JudgedSame (judging g a false a.values) (judging h b false b.values) = judging_same g h a b false a.values b.values i kp.0 kp.0.4 in
      let m : Parts = put mem L t' in
      let again : Goes A = λ r now z. guarded f (k r now) z in
      let again' : GoesApart B = λ r now z. apart f' L (k' r t') now z in
      let r : GuardedRun A = requested f a again s' (judged_by (judging g a false a.values) g) (let_through (judging g a false a.values)) in
      let c : Came B = requested_apart f' b again' m (judged_by (judging h b false b.values) h) (let_through (judging h b false b.values)) in
      outs_map P (Each r.levels c.parts × Between r.kept c.kept × Above L m c.parts) (Each r.levels c.parts × Between r.kept c.kept × Above L mem c.parts)
      (λ z. (z.0, z.1, λ M le ne. z.2 M le ne ∙ put_other mem L M t' (L == M) refl ne)) r.result c.result
      (requested_same P f f' hs L m a b kp.0 fl.0 fl.1 again again'
      (λ u v n s2 mem2 w2 firm g2 h2 i2.
      let r2 : GuardedRun A = guarded f (k u s2) g2 in
      let c2 : Came B = apart f' L (k' v t') mem2 h2 in
      outs_map P (Each r2.levels c2.parts × Between r2.kept c2.kept × Above L mem2 c2.parts) (Each r2.levels c2.parts × Between r2.kept c2.kept × Above L m c2.parts)
      (λ z. (z.0, z.1, λ M le ne. z.2 M le ne ∙ firm M le)) r2.result c2.result
      (weave P f f' hs L lt (k u s2) (k' v t') s2 t' mem2
      (kp.2 u v n s2 t' (subst (λ (z : State). AtLevel L s2 z) (firm L (omega arith) ∙ put_same mem L t') (w2 L lt)))
      (fl.2 u s2) w2 g2 h2 i2))
      s' m (each_moves L s t s' t' mem w kp.1) (λ M le. refl) _ _ (judged_same _ _ j g h i) _ _ (let_same _ _ j))
  weave P f f' hs L lt _ _ s t mem kp fl w g h i = absurd kp

  module _ (source : Source) (bound : ℕ) (named : (name : Word) → MaybeKnown Known (function_named source.functions name))
      (falls : (d : Definition) → Known d → (xs : List Labelled) (s : State) → Falls d.level (served (local_call source bound (call_at source (far source) bound)) d xs s)) where
    pub serves_same : (depth : ℕ) → ServesSame (serves_at source bound depth) (apart_at source bound depth)
    unfolding serves_at
    serves_same zero d lt xs ys n s mem w g h i = (refl, (w, i, λ M le ne. refl))
    serves_same (suc depth) d lt xs ys n s mem w g h i =
        weave Nums (serves_at source bound depth) (apart_at source bound depth) (serves_same depth) d.level lt.1 _ _ s (mem d.level) mem
        (Keeps.serving_keeps d.level source Known named bound d lt.0 refl xs ys n s (mem d.level) (w d.level lt.1)) (falls d lt.0 xs s) w g h i

    -- the whole run of a function, such as `main`
    pub body_same : (d : Definition) → Known d → d.level < count → (s : State) (mem : Parts) → Falls d.level (body_run source bound (call_at source (far source) bound) d [] s) → Each s mem → (g h : Kept) → Between g h
        → Out (Endings (One d.level)) d.level mem (guarded (serves_at source bound bound) (body_run source bound (call_at source (far source) bound) d [] s) g) (apart (apart_at source bound bound) d.level (body_run source bound (call_at source (far source) bound) d [] (mem d.level)) mem h)
    body_same d kn lt s mem fl w g h i =
        weave (Endings (One d.level)) (serves_at source bound bound) (apart_at source bound bound) (serves_same bound) d.level lt _ _ s (mem d.level) mem
        (Keeps.body_keeps d.level source Known named bound d kn refl [] [] tt s (mem d.level) (w d.level lt)) fl w g h i
