-- What a level's code leaves alone. From two states in which level L is the same but for labels, its code goes side by side; and from
-- where it begins, or goes on, to where it asks or ends, every other level's record stays as it was.
use Rattle.std.proofs.Common.{◌≡◌, ℕ, List, length, refl, subst, sym, ap, ◌∙◌, Result, Ok, Err, Bool, if◌then◌else◌, length-set, get_or-set_other, lt-ltb}
use Rattle.std.specs.Prelude.{nat_lt}
use Rattle.cl_tree.specs.Words.{Word}
use Rattle.cl_mean.specs.Value.{Labelled}
use Rattle.cl_mean.specs.State.{LevelState, silent, State, Fault, Deed, level_in, with_level}
use Rattle.cl_mean.specs.Source.{Definition, Source, known_at, function_named}
use Rattle.cl_mean.specs.Course.{Course, comes, stops, asks, Stop, meaningless, stop_by, Ask, Computation, goes_to, asking, done, within}
use Rattle.cl_mean.specs.Evaluation.{Argument}
use Rattle.cl_mean.specs.Calls.{far, call_at, local_call, body_run, served}
use Rattle.mean_laws.specs.Apart.{OthersStay, BothMove, LeavesOthers}
use Rattle.mean_laws.proofs.Alike.{Family, Nums, Replies, Asks, Respects, bound_same, Args, Envs, Endings, MaybeKnown, CallsAlike}
use Rattle.mean_laws.proofs.SameLevel.{Ended, Deeds, AtLevel, One, one_respects, set_agrees, level_knows, lies_at}
use Rattle.mean_laws.proofs.LevelCalls
use Rattle.mean_laws.proofs.FarCalls

module _ (L : ℕ) where
  abbrev pub Others : State → State → Type 0
  Others s t = OthersStay L s t

  pub others_refl : (s : State) → Others s s
  others_refl s = (refl, λ M ne. refl)

  others_trans : (s t u : State) → Others s t → Others t u → Others s u
  others_trans s t u h k = (k.0 ∙ h.0, λ M ne. k.1 M ne ∙ h.1 M ne)

  others_set : (s : State) (l : LevelState) → Others s (with_level s L l)
  others_set s l = (length-set s L l, λ M ne. get_or-set_other s L M l silent ne)

  abbrev pub Moves : State → State → State → State → Type 0
  Moves s t s' t' = BothMove L s t s' t'

  pub still_here : (s t : State) → AtLevel L s t → Moves s t s t
  still_here s t r = (r, others_refl s, others_refl t)

  moves_on : (s t s' t' s2 t2 : State) → Moves s t s' t' → Moves s' t' s2 t2 → Moves s t s2 t2
  moves_on s t s' t' s2 t2 h k = (k.0, others_trans s s' s2 h.1 k.1, others_trans t t' t2 h.2 k.2)

  abbrev pub Leaves : {A B : Type 0} → (A → B → Type 0) → State → State → Course A → Course B → Type 0
  Leaves P s t x y = LeavesOthers L P s t x y

  abbrev pub Keep : {A B : Type 0} → (A → B → Type 0) → Computation A → Computation B → Type 0
  Keep P m n = (s t : State) → AtLevel L s t → Leaves P s t (m s) (n t)

  pub kept_on : {A B : Type 0} (P : A → B → Type 0) (s t s' t' : State) → Moves s t s' t' → (x : Course A) (y : Course B) → Leaves P s' t' x y → Leaves P s t x y
  kept_on P s t s' t' m (comes a s2) (comes b t2) h = (h.0, moves_on s t s' t' s2 t2 m h.1)
  kept_on P s t s' t' m (stops j s2) (stops k t2) h = (h.0, moves_on s t s' t' s2 t2 m h.1)
  kept_on P s t s' t' m (asks a s2 f) (asks b t2 g) h = (h.0, moves_on s t s' t' s2 t2 m h.1, h.2)
  kept_on P s t s' t' m _ _ h = absurd h

  pub kept_then : {A B C D : Type 0} (P : A → B → Type 0) (Q : C → D → Type 0) (s t : State) (x : Course A) (y : Course B) (f : A → Computation C) (g : B → Computation D) → Leaves P s t x y → ((a : A) (b : B) → P a b → Keep Q (f a) (g b)) → Leaves Q s t (goes_to f x) (goes_to g y)
  kept_then P Q s t (comes a s') (comes b t') f g e h = kept_on Q s t s' t' e.1 (f a s') (g b t') (h a b e.0 s' t' e.1.0)
  kept_then P Q s t (stops j s') (stops k t') f g e h = e
  kept_then P Q s t (asks a s' f') (asks b t' g') f g e h = (e.0, e.1, λ r q i s2 t2 n. kept_then P Q s2 t2 (f' r s2) (g' q t2) f g (e.2 r q i s2 t2 n) h)
  kept_then P Q s t _ _ f g e h = absurd e

  abbrev pub No : Stop → Type 0
  No h = ⊥

  abbrev pub keeping : Family
  keeping = record {
    Lax = No;
    Meets = Unit {0};
    Like = Keep;
    pures = λ P a b p s t r. (p, still_here s t r);
    halts = λ P stop o s t r. (refl, still_here s t r);
    meets = λ P m s t r. (refl, still_here s t r);
    laxes = λ P stop n l. absurd l;
    thens = λ P Q m n f g hm hf s t r. kept_then P Q s t (m s) (n t) f g (hm s t r) hf;
  }

  done_kept : {A B : Type 0} (P : A → B → Type 0) (line : ℕ) (s t : State) (x : Result (A × LevelState) Fault) (y : Result (B × LevelState) Fault) → AtLevel L s t → Ended P x y → Leaves P s t (done L line s x) (done L line t y)
  done_kept P line s t (Ok x) (Ok y) r h = (h.0, (set_agrees L s t x.1 y.1 r h.1, others_set s x.1, others_set t y.1))
  done_kept P line s t (Ok x) (Err d) r h = absurd h
  done_kept P line s t (Err c) (Ok y) r h = absurd h
  done_kept P line s t (Err c) (Err d) r h = (ap (stop_by L line) h, still_here s t r)

  within_kept : {A B : Type 0} (P : A → B → Type 0) (line : ℕ) (f : Deed A) (g : Deed B) → Deeds P f g → Keep P (within L line f) (within L line g)
  unfolding within
  within_kept {A} {B} P line f g h s t r =
      subst (λ (z : Bool). Leaves P s t (if z then done L line s (f (level_in s L)) else stops meaningless s) (if nat_lt L (length t) then done L line t (g (level_in t L)) else stops meaningless t)) (sym (lt-ltb L (length s) r.0))
      (subst (λ (z : Bool). Leaves P s t (done L line s (f (level_in s L))) (if z then done L line t (g (level_in t L)) else stops meaningless t)) (sym (lt-ltb L (length t) r.1))
      (done_kept P line s t (f (level_in s L)) (g (level_in t L)) r (h (level_in s L) (level_in t L) r.2)))

  pub keeping_respects : Respects keeping (One L) L
  keeping_respects = one_respects keeping L (λ A B P line f g h. within_kept P line f g h)

  pub keeping_asks : (a b : Ask) → Asks a b → Keep Replies (asking a) (asking b)
  keeping_asks a b h s t r = (h, still_here s t r, λ x y e s2 t2 n. (e, still_here s2 t2 n))

  module _ (source : Source) (Known : Definition → Type 0) (named : (name : Word) → MaybeKnown Known (function_named source.functions name)) where
    respects_at : (l : ℕ) → l ≡ L → Respects keeping (One L) l
    respects_at l e = subst (λ (z : ℕ). Respects keeping (One L) z) (sym e) keeping_respects

    knows_at : (l : ℕ) → l ≡ L → Envs (One L) (known_at source l) (known_at source l)
    knows_at l e = subst (λ (z : ℕ). Envs (One L) (known_at source z) (known_at source z)) (sym e) (level_knows L source)

    calls_keep : (n : ℕ) (here : Definition) → here.level ≡ L → CallsAlike keeping (One L) Known here (call_at source (far source) n) (call_at source (far source) n)
    calls_keep n here l =
        LevelCalls.calls_alike keeping (One L) source Known named (λ z. z ≡ L) respects_at knows_at (lies_at L) tt (far source) (far source)
        (λ k k' bb hs f line d kn xs ys e h. FarCalls.far_like keeping (One L) source L keeping_respects keeping_asks (local_call source k (call_at source (far source) k)) (local_call source k' (call_at source (far source) k')) f line d xs ys e h)
        n n (bound_same No n) here l

    -- the body of a function of the level
    pub body_keeps : (n : ℕ) (d : Definition) → Known d → d.level ≡ L → (xs ys : List Argument) → Args (One L) xs ys → Keep (Endings (One L)) (body_run source n (call_at source (far source) n) d xs) (body_run source n (call_at source (far source) n) d ys)
    body_keeps n d kn l xs ys h =
        LevelCalls.body_like keeping (One L) source Known named (λ z. z ≡ L) respects_at knows_at (lies_at L) tt n n (bound_same No n) (call_at source (far source) n) (call_at source (far source) n) d kn l (calls_keep n d l) xs ys h

    -- the level serves a request
    pub serving_keeps : (n : ℕ) (d : Definition) → Known d → d.level ≡ L → (xs ys : List Labelled) → Nums xs ys → Keep Nums (served (local_call source n (call_at source (far source) n)) d xs) (served (local_call source n (call_at source (far source) n)) d ys)
    serving_keeps n d kn l xs ys h =
        FarCalls.served_like keeping (One L) source L keeping_respects keeping_asks (local_call source n (call_at source (far source) n)) (local_call source n (call_at source (far source) n)) d l
        (λ us vs k. LevelCalls.local_like keeping (One L) source Known named (λ z. z ≡ L) respects_at knows_at (lies_at L) tt n n (bound_same No n) (call_at source (far source) n) (call_at source (far source) n) d kn l (calls_keep n d l) us vs k) xs ys h
