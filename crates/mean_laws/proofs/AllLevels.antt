-- Two runs in which all levels are the same but for labels, and what lies between levels is.
use Rattle.std.proofs.Common.{◌≡◌, ℕ, zero, suc, ℤ, List, [], ◌∷◌, ◌++◌, length, refl, subst, ap, Result, Ok, Err, Bool, true, false, ◌==◌, if◌then◌else◌, inr}
use Rattle.std.specs.Prelude.{slice_index_or, slice_set, nat_lt}
use Rattle.cl_tree.specs.declared.kinds.IntKind.{IntKind}
use Rattle.cl_tree.specs.Arithmetic.{value}
use Rattle.cl_mean.specs.declared.law.Asked.{Asked}
use Rattle.cl_mean.specs.declared.law.Patch.{Patch}
use Rattle.cl_mean.specs.declared.law.GuardAct.{GuardAct}
use Rattle.cl_mean.specs.declared.law.GuardAct.TheVariants as act
use Rattle.cl_mean.specs.declared.law.Rule.{Rule}
use Rattle.cl_mean.specs.declared.law.Law.{Law}
use Rattle.cl_mean.specs.declared.law.Ruling.{Ruling}
use Rattle.cl_mean.specs.declared.law.Ruling.TheVariants as ruling
use Rattle.cl_mean.specs.Value.{Labelled, bare, Value}
use Rattle.cl_mean.specs.State.{LevelState, silent, State, Fault, Deed, Place, level_in, fetch, store, make, get_byte, put_byte, count_step, begin_call, end_call, pay, deeper}
use Rattle.cl_mean.specs.Course.{Stop, meaningless, stops, stop_by, done, within, fetched, stored, made}
use Rattle.cl_mean.specs.Source.{Binding, Env}
use Rattle.cl_mean.specs.Judging.{Judged, Acted, patched, act_on, acted_first, passed_by, is_matched, rules_judge, judge, or_next, laws_judge}
use Rattle.cl_mean.specs.Guarded.{Crossing, fitted}
pub use Rattle.mean_laws.specs.Alike.{LevelsAll, Contents, Crossing1, Crossings, Between}
use Rattle.mean_laws.proofs.Alike.{Family, alike_pure, alike_then, by_states, Num, Nums, Same, Any, Ends, Alike, Respects, Envs, Bound}
use Rattle.mean_laws.proofs.Expressions.{two_same}
use Rattle.mean_laws.proofs.SameLevel.{Agree, Ended, Deeds, fetch_agrees, store_agrees, make_agrees, get_agrees, put_agrees, count_agrees, begin_agrees, end_agrees, pay_agrees}
use Rattle.mean_laws.proofs.StepsLeft.{Falls, fetch_falls, store_falls, make_falls, get_falls, put_falls, begin_falls, end_falls, pay_falls, count_falls}

-- ---- levels

silent_agrees : Agree silent silent
silent_agrees = record { objects = tt; input = refl; output = tt; steps_left = refl; active = refl; cost = refl }

pub at_all : (l : ℕ) (xs ys : List LevelState) → LevelsAll xs ys → Agree (slice_index_or xs l silent) (slice_index_or ys l silent)
at_all l [] [] h = silent_agrees
at_all l [] (b ∷ ys) h = absurd h
at_all l (a ∷ xs) [] h = absurd h
at_all zero (a ∷ xs) (b ∷ ys) h = h.0
at_all (suc l) (a ∷ xs) (b ∷ ys) h = at_all l xs ys h.1

pub set_all : (l : ℕ) (xs ys : List LevelState) (a b : LevelState) → LevelsAll xs ys → Agree a b → LevelsAll (slice_set xs l a) (slice_set ys l b)
set_all l [] [] a b h k = tt
set_all l [] (y ∷ ys) a b h k = absurd h
set_all l (x ∷ xs) [] a b h k = absurd h
set_all zero (x ∷ xs) (y ∷ ys) a b h k = (k, h.1)
set_all (suc l) (x ∷ xs) (y ∷ ys) a b h k = (h.0, set_all l xs ys a b h.1 k)

pub length_all : (xs ys : List LevelState) → LevelsAll xs ys → length xs ≡ length ys
length_all [] [] h = refl
length_all [] (b ∷ bs) h = absurd h
length_all (a ∷ xs) [] h = absurd h
length_all (a ∷ xs) (b ∷ ys) h = ap suc (length_all xs ys h.1)

abbrev pub SamePlace : Place → Place → Type 0
SamePlace p q = p ≡ q

pub envs_refl : (e : Env) → Envs SamePlace e e
envs_refl [] = tt
envs_refl (b ∷ e) = ((refl, refl, refl, refl), envs_refl e)

pub bound_refl : (b : Binding) → Bound SamePlace b b
bound_refl b = (refl, refl, refl, refl)

-- A family that holds of the same deeds of any level, where these don't raise the steps left, respects every level.
module _ (F : Family) (same : (A C : Type 0) (P : A → C → Type 0) (l line : ℕ) (f : Deed A) (g : Deed C) → Falls f → Deeds P f g → F.Like P (within l line f) (within l line g)) where
  deeds : {A C : Type 0} (P : A → C → Type 0) (l line : ℕ) (f : Deed A) (g : Deed C) → Falls f → Deeds P f g → F.Like P (within l line f) (within l line g)
  deeds {A} {C} P l line f g w h = same A C P l line f g w h

  fetched_same : (p q : Place) → SamePlace p q → F.Like Same (fetched p) (fetched q)
  fetched_same p q e = subst (λ (z : Place). F.Like Same (fetched p) (fetched z)) e (deeds Same p.level 0 (fetch p.object p.path) (fetch p.object p.path) (fetch_falls p.object p.path) (fetch_agrees p.object p.path))

  stored_same : (p q : Place) (v w : Value) → SamePlace p q → Same v w → F.Like Any (stored p v) (stored q w)
  stored_same p q v w e s = subst (λ (z : Place). F.Like Any (stored p v) (stored z w)) e (deeds Any p.level 0 (store p.object p.path v) (store p.object p.path w) (store_falls p.object p.path v) (store_agrees p.object p.path v w s))

  made_same : (l : ℕ) (v w : Value) → Same v w → F.Like SamePlace (made l v) (made l w)
  made_same l v w s =
      alike_then F (λ (m n : ℕ). m ≡ n) SamePlace (within l 0 (make (record { own = []; value = v }))) (within l 0 (make (record { own = []; value = w }))) _ _
      (deeds (λ (m n : ℕ). m ≡ n) l 0 (make (record { own = []; value = v })) (make (record { own = []; value = w })) (make_falls (record { own = []; value = v })) (make_agrees (record { own = []; value = v }) (record { own = []; value = w }) s))
      (λ m n e. alike_pure F SamePlace _ _ (ap (λ (k : ℕ). let p : Place = record { level = l; object = k; path = [] } in p) e))

  pub places_respect : (l : ℕ) → Respects F SamePlace l
  places_respect l = record {
    deeper_at = λ p q i h. ap (λ (z : Place). deeper z i) h;
    fetches = fetched_same;
    stores = stored_same;
    makes = made_same l;
    gets = deeds (λ (m n : ℤ). m ≡ n) l 0 get_byte get_byte get_falls get_agrees;
    puts = λ line v w p. deeds Any l line (put_byte v) (put_byte w) (put_falls v) (put_agrees v w p);
    begins = λ line. deeds Any l line begin_call begin_call begin_falls begin_agrees;
    ends = deeds Any l 0 end_call end_call end_falls end_agrees;
    pays = λ line cost. deeds Any l line (pay cost) (pay cost) (pay_falls cost) (pay_agrees cost);
    counts = λ line. deeds Any l line count_step count_step count_falls count_agrees;
  }

module _ (Lax : Stop → Type 0) where
  abbrev pub All : State → State → Type 0
  All s t = LevelsAll s t

  done_all : {A C : Type 0} (P : A → C → Type 0) (l line : ℕ) (s : State) (t : State) (x : Result (A × LevelState) Fault) (y : Result (C × LevelState) Fault) → All s t → Ended P x y → Ends All Lax P (done l line s x) (done l line t y)
  done_all P l line s t (Ok x) (Ok y) r h = (h.0, set_all l s t x.1 y.1 r h.1)
  done_all P l line s t (Ok x) (Err d) r h = absurd h
  done_all P l line s t (Err c) (Ok y) r h = absurd h
  done_all P l line s t (Err c) (Err d) r h = inr (ap (stop_by l line) h, r)

  within_all : {A C : Type 0} (P : A → C → Type 0) (l line : ℕ) (f : Deed A) (g : Deed C) → Deeds P f g → Alike (by_states All Lax) P (within l line f) (within l line g)
  unfolding within
  within_all {A} {C} P l line f g h s t r =
      subst (λ (z : ℕ). Ends All Lax P (if nat_lt l (length s) then done l line s (f (level_in s l)) else stops meaningless s) (if nat_lt l z then done l line t (g (level_in t l)) else stops meaningless t)) (length_all s t r)
      (either (nat_lt l (length s)))
    where
      either : (z : Bool) → Ends All Lax P (if z then done l line s (f (level_in s l)) else stops meaningless s) (if z then done l line t (g (level_in t l)) else stops meaningless t)
      either true = done_all P l line s t (f (level_in s l)) (g (level_in t l)) r (h (level_in s l) (level_in t l) (at_all l s t r))
      either false = inr (refl, r)

  pub all_respect : (l : ℕ) → Respects (by_states All Lax) SamePlace l
  all_respect l = places_respect (by_states All Lax) (λ A C P z line f g w h. within_all P z line f g h) l

-- ---- judging forgets labels

nums_set : (i : ℕ) (xs ys : List Labelled) (a b : Labelled) → Nums xs ys → Num a b → Nums (slice_set xs i a) (slice_set ys i b)
nums_set i [] [] a b h k = tt
nums_set i [] (y ∷ ys) a b h k = absurd h
nums_set i (x ∷ xs) [] a b h k = absurd h
nums_set zero (x ∷ xs) (y ∷ ys) a b h k = (k, h.1)
nums_set (suc i) (x ∷ xs) (y ∷ ys) a b h k = (h.0, nums_set i xs ys a b h.1 k)

patched_same : (ps : List Patch) (xs ys : List Labelled) → Nums xs ys → Nums (patched bare ps xs) (patched bare ps ys)
unfolding patched
patched_same [] xs ys h = h
patched_same (p ∷ ps) xs ys h = patched_same ps _ _ (nums_set p.at xs ys (bare p.with) (bare p.with) h refl)

abbrev ActedSame : Acted Labelled → Acted Labelled → Type 0
ActedSame a b = (a.ruling ≡ b.ruling) × (a.act ≡ b.act) × Nums a.values b.values

acted_if : (c : Bool) (a b a' b' : Acted Labelled) → ActedSame a a' → ActedSame b b' → ActedSame (if c then a else b) (if c then a' else b')
acted_if true a b a' b' h k = h
acted_if false a b a' b' h k = k

act_same : (a : GuardAct) (xs ys : List Labelled) → Nums xs ys → ActedSame (act_on bare a xs) (act_on bare a ys)
unfolding act_on
act_same act.Allow xs ys h = (refl, refl, h)
act_same act.Block xs ys h = (refl, refl, h)
act_same (act.Redact patches) xs ys h = (refl, refl, patched_same patches xs ys h)
act_same (act.Quota left) xs ys h = acted_if (left == 0) _ _ _ _ (refl, refl, h) (refl, refl, h)
act_same (act.Veil left patches) xs ys h = acted_if (left == 0) _ _ _ _ (refl, refl, h) (refl, refl, patched_same patches xs ys h)

abbrev pub JudgedSame : {L : Type 0} → Judged L Labelled → Judged L Labelled → Type 0
JudgedSame a b = (a.ruling ≡ b.ruling) × (a.law ≡ b.law) × Nums a.values b.values

judged_if : {L : Type 0} (c : Bool) (a b a' b' : Judged L Labelled) → JudgedSame a a' → JudgedSame b b' → JudgedSame (if c then a else b) (if c then a' else b')
judged_if true a b a' b' h k = h
judged_if false a b a' b' h k = k

rules_same : (rs : List Rule) (asked : Asked) (xs ys : List Labelled) → Nums xs ys → JudgedSame (rules_judge bare rs asked xs) (rules_judge bare rs asked ys)
unfolding rules_judge
rules_same [] asked xs ys h = (refl, refl, h)
rules_same (r ∷ rs) asked xs ys h =
    let a : ActedSame (act_on bare r.act xs) (act_on bare r.act ys) = act_same r.act xs ys h in
    let j : JudgedSame (rules_judge bare rs asked xs) (rules_judge bare rs asked ys) = rules_same rs asked xs ys h in
    judged_if (is_matched r asked) (acted_first r rs (act_on bare r.act xs)) (passed_by r (rules_judge bare rs asked xs)) (acted_first r rs (act_on bare r.act ys)) (passed_by r (rules_judge bare rs asked ys))
    (a.0, ap (λ (z : GuardAct). let q : Rule = record { from = r.from; to = r.to; function = r.function; reply = r.reply; act = z } in q ∷ rs) a.1, a.2)
    (j.0, ap (λ (z : List Rule). r ∷ z) j.1, j.2)

judge_same : (law : Law) (asked : Asked) (xs ys : List Labelled) → Nums xs ys → JudgedSame (judge bare law asked xs) (judge bare law asked ys)
unfolding judge
judge_same law asked xs ys h =
    let j : JudgedSame (rules_judge bare law.rules asked xs) (rules_judge bare law.rules asked ys) = rules_same law.rules asked xs ys h in
    (j.0, ap (λ (z : List Rule). let l : Law = record { rules = z } in l) j.1, j.2)

next_same : (laws : List Law) (a b : Judged Law Labelled) (f g : List Labelled → Judged (List Law) Labelled) → JudgedSame a b → ((xs ys : List Labelled) → Nums xs ys → JudgedSame (f xs) (g ys)) → (r : Ruling) → JudgedSame (or_next a laws f r) (or_next b laws g r)
next_same laws a b f g h k ruling.Block = (refl, ap (λ (z : Law). z ∷ laws) h.1, h.2)
next_same laws a b f g h k ruling.Pass =
    let j : JudgedSame (f a.values) (g b.values) = k a.values b.values h.2 in
    (j.0, two_same (λ (y : Law) (z : List Law). y ∷ z) a.law b.law (f a.values).law (g b.values).law h.1 j.1, j.2)

fitted_same : (kinds : List IntKind) (xs ys : List Labelled) → Nums xs ys → Nums (fitted kinds xs) (fitted kinds ys)
fitted_same [] xs ys h = h
fitted_same (k ∷ kinds) [] [] h = tt
fitted_same (k ∷ kinds) [] (y ∷ ys) h = absurd h
fitted_same (k ∷ kinds) (x ∷ xs) [] h = absurd h
fitted_same (k ∷ kinds) (x ∷ xs) (y ∷ ys) h = (ap (value k) h.0, fitted_same kinds xs ys h.1)

pub laws_same : (kinds : List IntKind) (laws : List Law) (asked : Asked) (xs ys : List Labelled) → Nums xs ys → JudgedSame (laws_judge bare (fitted kinds) laws asked xs) (laws_judge bare (fitted kinds) laws asked ys)
unfolding laws_judge
laws_same kinds [] asked xs ys h = (refl, refl, h)
laws_same kinds (law ∷ laws) asked xs ys h =
    let a : JudgedSame (judge bare law asked xs) (judge bare law asked ys) = judge_same law asked xs ys h in
    subst (λ (r : Ruling). JudgedSame (or_next (judge bare law asked xs) laws (λ ws. laws_judge bare (fitted kinds) laws asked (fitted kinds ws)) (judge bare law asked xs).ruling) (or_next (judge bare law asked ys) laws (λ ws. laws_judge bare (fitted kinds) laws asked (fitted kinds ws)) r)) a.0
    (next_same laws (judge bare law asked xs) (judge bare law asked ys) _ _ a (λ us vs k. laws_same kinds laws asked (fitted kinds us) (fitted kinds vs) (fitted_same kinds us vs k)) (judge bare law asked xs).ruling)

-- ---- what is kept between levels

pub crossings_more : (xs ys : List Crossing) (c d : Crossing) → Crossings xs ys → Crossing1 c d → Crossings (xs ++ c ∷ []) (ys ++ d ∷ [])
crossings_more [] [] c d h g = (g, tt)
crossings_more [] (b ∷ ys) c d h g = absurd h
crossings_more (a ∷ xs) [] c d h g = absurd h
crossings_more (a ∷ xs) (b ∷ ys) c d h g = (h.0, crossings_more xs ys c d h.1 g)
