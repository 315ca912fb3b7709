-- From batches of words to labels.
use Rattle.std.proofs.Common.{◌≡◌, ℕ, ◌<◌, ◌≤◌, ◌+◌, ◌*◌, ◌/◌, ◌%◌, ⊎_elim, List, [], ◌∷◌, ◌++◌, length, get_or, map, refl, sym, ap, subst, ◌∙◌, arith}
use Rattle.std.proofs.lemmas.Bool.{cases_lt}
use Rattle.std.proofs.lemmas.List.{length_push, get_or_append_left, get_or_push, get_or_past, map_push}
use Rattle.std.proofs.lemmas.List.Elements.{All-contains, Contains-get_or}
use Rattle.std.proofs.lemmas.Nat.Bits.{bit_at-zero}
use Rattle.std.specs.Int.{bit_at}
use Rattle.std.specs.Prelude.{Vec}
use Rattle.std.specs.declared.alloc.Global.{Global}
use Rattle.std.specs.List.{Contains, All}
use Rattle.cl_reach.specs.declared.graph.Edge.{Edge}
use Rattle.cl_reach.specs.declared.propagate.Seed.{Seed}
use Rattle.cl_reach.specs.Reach.{Leads, Reaches, Has, HasEdge, Rows, Carries, Bears, seed, edge}
use Rattle.cl_reach.specs.Seeds.{Seeded, CarriesBatch, CarriesBatches}
use Rattle.cl_reach.proofs.Settled.{reaches_closed, reaches_start, reaches_step}

-- more edges and more starts reach more
pub reaches_more : (Edge Edge' : ℕ → ℕ → Type 0) (Start Start' : ℕ → Type 0) → ((a b : ℕ) → Edge a b → Edge' a b) → ((x : ℕ) → Start x → Start' x) → (x : ℕ) → Reaches Edge Start x → Reaches Edge' Start' x
reaches_more Edge Edge' Start Start' edges starts x h = reaches_closed Edge Start (λ y. Reaches Edge' Start' y) (λ y s. reaches_start Edge' Start' y (starts y s)) (λ y z e r. reaches_step Edge' Start' y z (edges y z e) r) x h

pub batch_carries : (graph : List (List ℕ)) (seeds : List Seed) (batch : ℕ) (start words : List ℕ) → Seeded seeds batch start → ((k x : ℕ) → Has words k x → Reaches (Leads graph) (Has start k) x) → ((k x : ℕ) → Reaches (Leads graph) (Has start k) x → Has words k x) → CarriesBatch (Leads graph) seeds batch words
batch_carries graph seeds batch start words s sound complete = record {
  sound = λ k x h. reaches_more (Leads graph) (Leads graph) (Has start k) (λ y. Contains seeds (seed y (batch * 64 + k))) (λ a b e. e) (λ y b. s.sound k y b) x (sound k x h);
  complete = λ k x l h. complete k x (reaches_more (Leads graph) (Leads graph) (λ y. Contains seeds (seed y (batch * 64 + k))) (Has start k) (λ a b e. e) (λ y b. s.complete k y l b) x h);
}

abbrev pub no_words : List ℕ
no_words = []

abbrev pub words_of : Vec ℕ Global → List ℕ
words_of v = v.items

pub batches_none : (E : ℕ → ℕ → Type 0) (seeds : List Seed) → CarriesBatches E seeds 0 []
batches_none E seeds = record { same_length = refl; each = λ b h. absurd (omega arith) }

pub batches_more : (E : ℕ → ℕ → Type 0) (seeds : List Seed) (n : ℕ) (batches : List (List ℕ)) (words : List ℕ) → CarriesBatches E seeds n batches → CarriesBatch E seeds n words → CarriesBatches E seeds (n + 1) (batches ++ words ∷ [])
batches_more E seeds n batches words f w = record {
  same_length = length_push batches words ∙ ap (λ (k : ℕ). k + 1) f.same_length;
  each = λ b h. ⊎_elim
      (λ (l : b < n). subst (λ (ws : List ℕ). CarriesBatch E seeds b ws) (sym (get_or_append_left batches (words ∷ []) [] b (within b l))) (f.each b l))
      (λ (g : n ≤ b). subst (λ (k : ℕ). CarriesBatch E seeds k (get_or (batches ++ words ∷ []) k [])) (last b h g) (subst (λ (ws : List ℕ). CarriesBatch E seeds n ws) (sym (get_or_push batches words [] n f.same_length)) w))
      (cases_lt b n);
}
  where
    within : (b : ℕ) → b < n → b < length batches
    within b l = let e : length batches ≡ n = f.same_length in omega arith

    last : (b : ℕ) → b < n + 1 → n ≤ b → n ≡ b
    last b h g = omega arith

pub rows_targets : (edges : List Edge) (nodes : ℕ) (rows : List (List ℕ)) → All (λ e. e.to < nodes) edges → Rows edges rows → (x : ℕ) → All (λ t. t < nodes) (get_or rows x [])
rows_targets edges nodes rows all f x k d h = All-contains (λ (e : Edge). e.to < nodes) edges (edge x (get_or (get_or rows x []) k d)) all (f.sound x (get_or (get_or rows x []) k d) (Contains-get_or (get_or rows x []) k d h))

digits : (m : ℕ) → m / 64 * 64 + m % 64 ≡ m
digits m = omega arith

pub all_sound : (seeds : List Seed) (edges : List Edge) (graph batches : List (List ℕ)) (count : ℕ) → Rows edges graph → CarriesBatches (Leads graph) seeds count batches → (m x : ℕ) → Bears batches m x → Carries seeds edges m x
all_sound seeds edges graph batches count r f m x h = ⊎_elim
    (λ (l : m / 64 < count). subst (λ (n : ℕ). Carries seeds edges n x) (digits m) (reaches_more (Leads graph) (HasEdge edges) (λ y. Contains seeds (seed y (m / 64 * 64 + m % 64))) (λ y. Contains seeds (seed y (m / 64 * 64 + m % 64))) r.sound (λ y s. s) x ((f.each (m / 64) l).sound (m % 64) x h)))
    (λ (g : count ≤ m / 64). absurd (nothing g))
    (cases_lt (m / 64) count)
  where
    nothing : count ≤ m / 64 → ⊥
    nothing g =
        let e : length batches ≡ count = f.same_length in
        let p : get_or batches (m / 64) no_words ≡ no_words = get_or_past batches (m / 64) no_words (omega arith) in
        let b : bit_at 0 (m % 64) ≡ 1 = subst (λ (ws : List ℕ). Has ws (m % 64) x) p h in
        let z : bit_at 0 (m % 64) ≡ 0 = bit_at-zero (m % 64) in
        omega arith

pub all_complete : (seeds : List Seed) (edges : List Edge) (graph batches : List (List ℕ)) (labels : ℕ) → All (λ s. s.label < labels) seeds → Rows edges graph → CarriesBatches (Leads graph) seeds (labels / 64 + 1) batches → (m x : ℕ) → Carries seeds edges m x → Bears batches m x
all_complete seeds edges graph batches labels all r f m x h =
    (f.each (m / 64) (batch_within (reaches_closed (HasEdge edges) (λ y. Contains seeds (seed y m)) (λ y. m < labels) (λ y s. All-contains (λ (s : Seed). s.label < labels) seeds (seed y m) all s) (λ y z e l. l) x h))).complete (m % 64) x (omega arith)
    (subst (λ (n : ℕ). Reaches (Leads graph) (λ y. Contains seeds (seed y n)) x) (sym (digits m)) (reaches_more (HasEdge edges) (Leads graph) (λ y. Contains seeds (seed y m)) (λ y. Contains seeds (seed y m)) r.complete (λ y s. s) x h))
  where
    batch_within : m < labels → m / 64 < labels / 64 + 1
    batch_within l = omega arith

-- the same from the vectors of the code
pub batches_start : (E : ℕ → ℕ → Type 0) (seeds : List Seed) (vs : List (Vec ℕ Global)) → vs ≡ [] → CarriesBatches E seeds 0 (map words_of vs)
batches_start E seeds vs e = subst (λ (ws : List (Vec ℕ Global)). CarriesBatches E seeds 0 (map words_of ws)) (sym e) (batches_none E seeds)

pub batches_push : (E : ℕ → ℕ → Type 0) (seeds : List Seed) (n : ℕ) (vs ws : List (Vec ℕ Global)) (v : Vec ℕ Global) → CarriesBatches E seeds n (map words_of vs) → CarriesBatch E seeds n v.items → ws ≡ vs ++ v ∷ [] → CarriesBatches E seeds (n + 1) (map words_of ws)
batches_push E seeds n vs ws v f w e = subst (λ (us : List (Vec ℕ Global)). CarriesBatches E seeds (n + 1) (map words_of us)) (sym e) (subst (λ (bs : List (List ℕ)). CarriesBatches E seeds (n + 1) bs) (sym (map_push words_of vs v)) (batches_more E seeds n (map words_of vs) v.items f w))
