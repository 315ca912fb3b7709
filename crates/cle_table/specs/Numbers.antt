-- Holders and labels by numbers.
use Rattle.std.specs.Prelude.{◌≡◌, ◌⊎◌, ◌+◌, ◌*◌, ◌<◌, ℕ, List, [], ◌∷◌, ◌++◌, Option, Some, None, unwrap_or, slice_index_or, slice_get}
use Rattle.cl_mean.specs.declared.labels.Mention.{Mention}
use Rattle.cl_mean.specs.declared.labels.Mention.TheVariants.{Label, Level}
use Rattle.cl_reach.specs.declared.graph.Edge.{Edge}
use Rattle.cl_reach.specs.declared.propagate.Seed.{Seed}
use Rattle.cl_reach.specs.Reach.{edge, seed}
use Rattle.cle_ways.specs.declared.ways.Holder.{Holder}
use Rattle.cle_ways.specs.declared.ways.Holder.TheVariants.{Object, Local, Result}
use Rattle.cle_ways.specs.declared.ways.Origin.{Origin}
use Rattle.cle_ways.specs.declared.ways.Origin.TheVariants.{Just, AllOf}
use Rattle.cle_ways.specs.declared.ways.Way.{Way}
use Rattle.cle_ways.specs.declared.ways.Note.{Note}
use Rattle.cle_ways.specs.declared.ways.Note.TheVariants.{Flows, Bounds}
use Rattle.cle_table.specs.declared.nodes.Nodes.{Nodes}

-- ---- the ways that are noted

abbrev pub way_in : Note → List Way
way_in (Flows w) = w ∷ []
way_in (Bounds b) = []

unfoldable pub ways_in : List Note → List Way
ways_in [] = []
ways_in (n ∷ ns) = way_in n ++ ways_in ns

-- ---- numbers

abbrev pub row_at : List (Option ℕ) → ℕ → Option ℕ
row_at row k = slice_index_or row k None

abbrev pub rows_at : List (List (Option ℕ)) → ℕ × ℕ → Option ℕ
rows_at rows place = row_at (slice_index_or rows place.0 []) place.1

abbrev pub number_of : Nodes → Holder → Option ℕ
number_of s (Object k) = row_at s.objects k
number_of s (Local f k) = rows_at s.locals (f, k)
number_of s (Result f) = row_at s.results f

abbrev pub node_of : Nodes → Holder → ℕ
node_of s x = unwrap_or (number_of s x) 0

-- One place has this number now; no other place got one, and none lost one.
pub record Puts {A : Type 0} (old new : A → Option ℕ) (at : A) (number : ℕ) : Type 0 where
  pub there : new at ≡ Some number
  pub only : (x : A) (n : ℕ) → new x ≡ Some n → (old x ≡ Some n) ⊎ ((x ≡ at) × (n ≡ number))
  pub kept : (x : A) (n : ℕ) → old x ≡ Some n → (m : ℕ) × (new x ≡ Some m)

abbrev pub HasNumber : Nodes → Holder → Type 0
HasNumber s x = (n : ℕ) × (number_of s x ≡ Some n)

-- A number is that of one holder, which stands at its place.
abbrev pub IsNumbered : Nodes → Type 0
IsNumbered s = (x : Holder) (n : ℕ) → number_of s x ≡ Some n → slice_get s.holders.items n ≡ Some x

abbrev pub OriginNumbered : Nodes → Origin → Type 0
OriginNumbered s (Just m) = Unit {0}
OriginNumbered s (AllOf x) = HasNumber s x

abbrev pub WayNumbered : Nodes → Way → Type 0
WayNumbered s w = HasNumber s w.into × OriginNumbered s w.from

-- Labels have the even numbers, labels of levels the odd ones.
abbrev pub label_number : Mention → ℕ
label_number (Label k) = k * 2
label_number (Level k) = k * 2 + 1

-- ---- the graph

abbrev pub seeds_at : Nodes → Way → Origin → List Seed
seeds_at s w (Just m) = seed (node_of s w.into) (label_number m) ∷ []
seeds_at s w (AllOf y) = []

abbrev pub edges_at : Nodes → Way → Origin → List Edge
edges_at s w (Just m) = []
edges_at s w (AllOf y) = edge (node_of s y) (node_of s w.into) ∷ []

unfoldable pub seeds_of : Nodes → List Way → List Seed
seeds_of s [] = []
seeds_of s (w ∷ ws) = seeds_at s w w.from ++ seeds_of s ws

unfoldable pub edges_of : Nodes → List Way → List Edge
edges_of s [] = []
edges_of s (w ∷ ws) = edges_at s w w.from ++ edges_of s ws

-- labels of origins have numbers below
abbrev pub OriginBelow : ℕ → Origin → Type 0
OriginBelow n (Just m) = label_number m < n
OriginBelow n (AllOf x) = Unit {0}

abbrev pub WayBelow : ℕ → Way → Type 0
WayBelow n w = OriginBelow n w.from
