-- A parameter and a result carry, by what is noted of taints, just what is admitted.
use Rattle.std.proofs.Common.{◌≡◌, ◌↔◌, ◌<◌, ◌≤◌, ◌+◌, inl, inr, ⊎_elim, ℕ, zero, suc, List, [], ◌∷◌, ◌++◌, Option, Some, None, length, get_or, drop, drop-cons, add-one, append_assoc, refl, sym, ap, subst, ◌∙◌, arith}
use Rattle.std.specs.List.{Contains}
use Rattle.std.proofs.lemmas.Bool.{cases_lt}
use Rattle.std.proofs.lemmas.List.{get_or_past}
use Rattle.std.proofs.lemmas.List.Elements.{Contains-append_left, Contains-append_right, Contains-append_cases}
use Rattle.cl_mean.specs.declared.labels.Mention.{Mention}
use Rattle.cl_mean.specs.declared.labels.Mentions.{Mentions}
use Rattle.cl_mean.specs.declared.labels.Taints.{Taints}
use Rattle.cl_mean.specs.Source.{no_mentions, taints_of, label_at}
use Rattle.cl_levels.specs.Crossings.{Levelled}
use Rattle.cle_ways.specs.declared.ways.Holder.{Holder}
use Rattle.cle_ways.specs.declared.ways.Holder.TheVariants.{Object, Local, Result}
use Rattle.cle_ways.specs.declared.ways.Admitted.TheVariants.{Argument, Body}
use Rattle.cle_ways.specs.declared.ways.Origin.{Origin}
use Rattle.cle_ways.specs.declared.ways.Origin.TheVariants.{Just, AllOf}
use Rattle.cle_ways.specs.declared.ways.Note.{Note}
use Rattle.cle_ways.specs.declared.ways.Note.TheVariants.{Flows, Bounds}
use Rattle.cle_ways.specs.Ways.{way, into, just, params_carry, taints_at}
use Rattle.cle_ways.specs.Carries.{Carries}
use Rattle.cle_ways.specs.Flow.{InArguments, InTaints, WithTaints, Admits}
use Rattle.cle_table.proofs.Graphs.{none, heads, later, first, carries_just, carries_least}
use Rattle.cle_flow.specs.Admissions.{args_admit, taints_admit, admissions_from, admissions}

-- ---- notes that tell that a holder has a label

abbrev Has : Type 1
Has = Holder → Mention → Type 0

abbrev Tells : Has → Origin → Holder → Type 0
Tells P (Just m) x = P x m
Tells P (AllOf y) x = ⊥

abbrev Told : Has → Note → Type 0
Told P (Flows w) = Tells P w.from w.into
Told P (Bounds b) = ⊥

-- each tells what is so
abbrev AllTold : Has → List Note → Type 0
AllTold P ns = (n : Note) → Contains ns n → Told P n

abbrev said : Mention → Holder → Note
said m x = Flows (way (Just m) x)

nothing_told : (P : Has) → AllTold P []
nothing_told P n c = absurd (none n c)

both_told : (P : Has) (a b : List Note) → AllTold P a → AllTold P b → AllTold P (a ++ b)
both_told P a b f g n c = ⊎_elim (λ (l : Contains a n). f n l) (λ (r : Contains b n). g n r) (Contains-append_cases a b n c)

into_told : (P : Has) (x : Holder) (ms : List Mention) → ((m : Mention) → Contains ms m → P x m) → AllTold P (into x (just ms))
into_told P x [] f n c = absurd (none n c)
into_told P x (l ∷ ms) f n c = ⊎_elim
    (λ (e : said l x ≡ n). subst (λ (k : Note). Told P k) e (f l (first l ms)))
    (λ (r : Contains (into x (just ms)) n). into_told P x ms (λ m d. f m (later l m ms d)) n r)
    (heads (said l x) n (into x (just ms)) c)

into_says : (x : Holder) (ms : List Mention) (m : Mention) → Contains ms m → Contains (into x (just ms)) (said m x)
into_says x [] m c = absurd (none m c)
into_says x (l ∷ ms) m c = ⊎_elim
    (λ (e : l ≡ m). subst (λ (k : Mention). Contains (into x (just (l ∷ ms))) (said k x)) e (first (said l x) (into x (just ms))))
    (λ (r : Contains ms m). later (said l x) (said m x) (into x (just ms)) (into_says x ms m r))
    (heads l m ms c)

-- ---- parameters

params_told : (P : Has) (f k : ℕ) (mss : List Mentions) → ((i : ℕ) (m : Mention) → Contains (get_or mss i no_mentions).all m → P (Local f (k + i)) m)
    → AllTold P (params_carry f k mss)
unfolding params_carry
params_told P f k [] h = nothing_told P
params_told P f k (ms ∷ mss) h =
    both_told P (into (Local f k) (just ms.all)) (params_carry f (suc k) mss)
    (into_told P (Local f k) ms.all (λ m c. subst (λ (j : ℕ). P (Local f j) m) (omega arith) (h 0 m c)))
    (params_told P f (suc k) mss (λ i m c. subst (λ (j : ℕ). P (Local f j) m) (omega arith) (h (suc i) m c)))

params_say : (f k : ℕ) (mss : List Mentions) (i : ℕ) (m : Mention) → Contains (get_or mss i no_mentions).all m → Contains (params_carry f k mss) (said m (Local f (k + i)))
unfolding params_carry
params_say f k [] i m c = absurd (none m c)
params_say f k (ms ∷ mss) zero m c = subst (λ (j : ℕ). Contains (into (Local f k) (just ms.all) ++ params_carry f (suc k) mss) (said m (Local f j))) (omega arith)
    (Contains-append_left (into (Local f k) (just ms.all)) (params_carry f (suc k) mss) (said m (Local f k)) (into_says (Local f k) ms.all m c))
params_say f k (ms ∷ mss) (suc i) m c = subst (λ (j : ℕ). Contains (into (Local f k) (just ms.all) ++ params_carry f (suc k) mss) (said m (Local f j))) (omega arith)
    (Contains-append_right (into (Local f k) (just ms.all)) (params_carry f (suc k) mss) (said m (Local f (suc k + i))) (params_say f (suc k) mss i m c))

-- ---- results

args_told : (P : Has) (f : ℕ) (mss : List Mentions) → ((m : Mention) → InArguments mss m → P (Result f) m) → AllTold P (args_admit f mss)
unfolding args_admit
args_told P f [] h = nothing_told P
args_told P f (ms ∷ mss) h =
    both_told P (into (Result f) (just ms.all)) (args_admit f mss)
    (into_told P (Result f) ms.all (λ m c. h m (ms, (first ms mss, c))))
    (args_told P f mss (λ m i. h m (i.0, (later ms i.0 mss i.1.0, i.1.1))))

args_say : (f : ℕ) (mss : List Mentions) (m : Mention) → InArguments mss m → Contains (args_admit f mss) (said m (Result f))
unfolding args_admit
args_say f [] m i = absurd (none i.0 i.1.0)
args_say f (ms ∷ mss) m i = ⊎_elim
    (λ (e : ms ≡ i.0). Contains-append_left (into (Result f) (just ms.all)) (args_admit f mss) (said m (Result f))
    (into_says (Result f) ms.all m (subst (λ (n : Mentions). Contains n.all m) (sym e) i.1.1)))
    (λ (r : Contains mss i.0). Contains-append_right (into (Result f) (just ms.all)) (args_admit f mss) (said m (Result f)) (args_say f mss m (i.0, (r, i.1.1))))
    (heads ms i.0 mss i.1.0)

module _ (f : ℕ) (t : Taints) where
  abbrev coded : List Note
  coded = into (Result f) (just t.code)

  abbrev resulted : List Note
  resulted = into (Result f) (just t.result)

  taints_told : (P : Has) → ((i : ℕ) (m : Mention) → Contains (get_or t.args i no_mentions).all m → P (Local f i) m) → ((m : Mention) → InTaints t m → P (Result f) m)
      → AllTold P (taints_admit f (Some t))
  taints_told P g h =
      both_told P (params_carry f 0 t.args) (args_admit f t.args ++ (coded ++ resulted)) (params_told P f 0 t.args (λ i m c. subst (λ (j : ℕ). P (Local f j) m) (omega arith) (g i m c)))
      (both_told P (args_admit f t.args) (coded ++ resulted) (args_told P f t.args (λ m i. h m (inl i)))
      (both_told P coded resulted (into_told P (Result f) t.code (λ m c. h m (inr (inl c)))) (into_told P (Result f) t.result (λ m c. h m (inr (inr c))))))

  param_said : (k : ℕ) (m : Mention) → Contains (get_or t.args k no_mentions).all m → Contains (taints_admit f (Some t)) (said m (Local f k))
  param_said k m c = Contains-append_left (params_carry f 0 t.args) (args_admit f t.args ++ (coded ++ resulted)) (said m (Local f k))
      (subst (λ (j : ℕ). Contains (params_carry f 0 t.args) (said m (Local f j))) (omega arith) (params_say f 0 t.args k m c))

  result_in : (m : Mention) → InTaints t m → Contains (args_admit f t.args ++ (coded ++ resulted)) (said m (Result f))
  result_in m (inl i) = Contains-append_left (args_admit f t.args) (coded ++ resulted) (said m (Result f)) (args_say f t.args m i)
  result_in m (inr (inl c)) = Contains-append_right (args_admit f t.args) (coded ++ resulted) (said m (Result f))
      (Contains-append_left coded resulted (said m (Result f)) (into_says (Result f) t.code m c))
  result_in m (inr (inr c)) = Contains-append_right (args_admit f t.args) (coded ++ resulted) (said m (Result f))
      (Contains-append_right coded resulted (said m (Result f)) (into_says (Result f) t.result m c))

  result_said : (m : Mention) → InTaints t m → Contains (taints_admit f (Some t)) (said m (Result f))
  result_said m i = Contains-append_right (params_carry f 0 t.args) (args_admit f t.args ++ (coded ++ resulted)) (said m (Result f)) (result_in m i)

-- ---- all functions

from_told : (P : Has) (l : Levelled) (f : ℕ) (ons : List (Option ℕ)) → ((g : ℕ) → AllTold P (taints_admit g (taints_at l g))) → AllTold P (admissions_from l f ons)
unfolding admissions_from
from_told P l f [] h = nothing_told P
from_told P l f (on ∷ ons) h = both_told P (taints_admit f (taints_at l f)) (admissions_from l (suc f) ons) (h f) (from_told P l (suc f) ons h)

from_says : (l : Levelled) (f : ℕ) (ons : List (Option ℕ)) (i : ℕ) (n : Note) → i < length ons → Contains (taints_admit (f + i) (taints_at l (f + i))) n → Contains (admissions_from l f ons) n
unfolding admissions_from
from_says l f [] i n h c = absurd (omega (arith, h))
from_says l f (on ∷ ons) zero n h c = Contains-append_left (taints_admit f (taints_at l f)) (admissions_from l (suc f) ons) n
    (subst (λ (g : ℕ). Contains (taints_admit g (taints_at l g)) n) (omega arith) c)
from_says l f (on ∷ ons) (suc i) n h c = Contains-append_right (taints_admit f (taints_at l f)) (admissions_from l (suc f) ons) n
    (from_says l (suc f) ons i n (omega (arith, h)) (subst (λ (g : ℕ). Contains (taints_admit g (taints_at l g)) n) (omega arith) c))

-- ---- what a program's taints admit

module _ (l : Levelled) where
  abbrev AdmittedAt : Has
  AdmittedAt (Object k) m = ⊥
  AdmittedAt (Local f k) m = Admits l (Argument f k) m
  AdmittedAt (Result f) m = Admits l (Body f) m

  told_at : (f : ℕ) (o : Option Taints) → taints_at l f ≡ o → AllTold AdmittedAt (taints_admit f o)
  told_at f None e = nothing_told AdmittedAt
  told_at f (Some t) e = taints_told f t AdmittedAt
      (λ i m c. subst (λ (q : Option Taints). WithTaints q (λ u. Contains (get_or u.args i no_mentions).all m)) (sym e) c)
      (λ m i. subst (λ (q : Option Taints). WithTaints q (λ u. InTaints u m)) (sym e) i)

  all_told : AllTold AdmittedAt (admissions l)
  all_told = from_told AdmittedAt l 0 l.annotated.labels.on_functions (λ f. told_at f (taints_at l f) refl)

  told_least : (x : Holder) (m : Mention) → Carries (admissions l) x m → AdmittedAt x m
  told_least x m h = carries_least (admissions l) AdmittedAt (λ k y c. all_told (said k y) c) (λ y z k c r. absurd (all_told (Flows (way (AllOf y) z)) c)) x m h

  -- Beyond the table no function has taints.
  unknown : (f : ℕ) → length l.annotated.labels.on_functions ≤ f → taints_at l f ≡ None
  unknown f h = ap (λ on. taints_of (label_at l.annotated.labels.labels on)) (get_or_past l.annotated.labels.on_functions f None h)

  said_all : (f : ℕ) (t : Taints) (n : Note) → taints_at l f ≡ Some t → Contains (taints_admit f (Some t)) n → Contains (admissions l) n
  said_all f t n e c = ⊎_elim
      (λ (h : f < length l.annotated.labels.on_functions). from_says l 0 l.annotated.labels.on_functions f n h
      (subst (λ (g : ℕ). Contains (taints_admit g (taints_at l g)) n) (omega arith) (subst (λ (o : Option Taints). Contains (taints_admit f o) n) (sym e) c)))
      (λ (h : length l.annotated.labels.on_functions ≤ f). absurd (apart (sym (unknown f h) ∙ e)))
      (cases_lt f (length l.annotated.labels.on_functions))
    where
      apart : {u : Taints} → None ≡ Some u → ⊥
      apart q = absurd (cc)

  param_by : (f k : ℕ) (m : Mention) (o : Option Taints) → taints_at l f ≡ o → WithTaints o (λ t. Contains (get_or t.args k no_mentions).all m) → Carries (admissions l) (Local f k) m
  param_by f k m None e h = absurd h
  param_by f k m (Some t) e h = carries_just (admissions l) m (Local f k) (said_all f t (said m (Local f k)) e (param_said f t k m h))

  result_by : (f : ℕ) (m : Mention) (o : Option Taints) → taints_at l f ≡ o → WithTaints o (λ t. InTaints t m) → Carries (admissions l) (Result f) m
  result_by f m None e h = absurd h
  result_by f m (Some t) e h = carries_just (admissions l) m (Result f) (said_all f t (said m (Result f)) e (result_said f t m h))

  pub argument_admits : (f k : ℕ) (m : Mention) → Carries (admissions l) (Local f k) m ↔ Admits l (Argument f k) m
  argument_admits f k m = ((λ c. told_least (Local f k) m c), (λ a. param_by f k m (taints_at l f) refl a))

  pub body_admits : (f : ℕ) (m : Mention) → Carries (admissions l) (Result f) m ↔ Admits l (Body f) m
  body_admits f m = ((λ c. told_least (Result f) m c), (λ a. result_by f m (taints_at l f) refl a))

-- ---- one function more

admissions_next : (l : Levelled) (f : ℕ) (ons : List (Option ℕ)) → f < length ons
    → admissions_from l f (drop f ons) ≡ taints_admit f (taints_at l f) ++ admissions_from l (f + 1) (drop (f + 1) ons)
unfolding admissions_from
admissions_next l f ons h = rw (add-one f) (ap (λ xs. admissions_from l f xs) (drop-cons ons f (get_or ons f None) h))

pub admissions_more : (l : Levelled) (f : ℕ) (ons : List (Option ℕ)) (old new whole : List Note) (o : Option Taints) → f < length ons → o ≡ taints_at l f
    → new ≡ old ++ taints_admit f o → old ++ admissions_from l f (drop f ons) ≡ whole → new ++ admissions_from l (f + 1) (drop (f + 1) ons) ≡ whole
admissions_more l f ons old new whole o h t e before =
    ap (λ ns. ns ++ admissions_from l (f + 1) (drop (f + 1) ons)) (e ∙ ap (λ p. old ++ taints_admit f p) t)
    ∙ append_assoc old (taints_admit f (taints_at l f)) (admissions_from l (f + 1) (drop (f + 1) ons))
    ∙ ap (λ ns. old ++ ns) (sym (admissions_next l f ons h)) ∙ before
