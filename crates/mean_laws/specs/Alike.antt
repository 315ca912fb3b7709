-- When two runs are the same but for labels.
use Rattle.std.specs.Prelude.{◌≡◌, ℕ, ◌<◌, List, [], ◌∷◌, length, Some, None, ◌⊎◌}
use Rattle.cl_mean.specs.Value.{Labelled, Value, Values, number, parts, no_more, ◌then◌}
use Rattle.cl_mean.specs.State.{Object, Written, LevelState, State, level_in}
use Rattle.cl_mean.specs.Course.{Course, comes, stops, asks, Stop, Ask, Reply}
use Rattle.cl_mean.specs.Guarded.{Content, holds, blocked, broken, Crossing, Kept}

-- ---- values that differ in labels alone

abbrev pub Num : Labelled → Labelled → Type 0
Num x y = x.number ≡ y.number

abbrev mutual
  pub Same : Value → Value → Type 0
  Same (number x) (number y) = Num x y
  Same (number x) (parts ws) = ⊥
  Same (parts vs) (number y) = ⊥
  Same (parts vs) (parts ws) = SameAll vs ws

  pub SameAll : Values → Values → Type 0
  SameAll no_more no_more = Unit {0}
  SameAll no_more (w then ws) = ⊥
  SameAll (v then vs) no_more = ⊥
  SameAll (v then vs) (w then ws) = Same v w × SameAll vs ws

-- ---- lists of numbers, and what comes back to a level

abbrev pub Nums : List Labelled → List Labelled → Type 0
Nums [] [] = Unit {0}
Nums [] (y ∷ ys) = ⊥
Nums (x ∷ xs) [] = ⊥
Nums (x ∷ xs) (y ∷ ys) = Num x y × Nums xs ys

abbrev pub Replies : Reply → Reply → Type 0
Replies None None = Unit {0}
Replies None (Some ys) = ⊥
Replies (Some xs) None = ⊥
Replies (Some xs) (Some ys) = Nums xs ys

-- the same call with the same numbers
abbrev pub Asks : Ask → Ask → Type 0
Asks a b = (a.from ≡ b.from) × (a.row ≡ b.row) × (a.callee ≡ b.callee) × (a.entry ≡ b.entry) × Nums a.values b.values

-- ---- courses side by side

-- Two courses, with a relation on their states. They go side by side: to results that `P` relates, to the same stop, or to the same
-- call, from which they go on side by side for every two replies of the same numbers and every two states that are related, whatever
-- was done to these meanwhile. Where the first one stops so that `Lax` holds, nothing is said of the second: it may go on.
abbrev pub SideBySide : {A B : Type 0} → (State → State → Type 0) → (Stop → Type 0) → (A → B → Type 0) → Course A → Course B → Type 0
SideBySide R Lax P (comes a s) (comes b t) = P a b × R s t
SideBySide R Lax P (comes a s) (stops k t) = ⊥
SideBySide R Lax P (comes a s) (asks b t g) = ⊥
SideBySide R Lax P (stops h s) (comes b t) = Lax h
SideBySide R Lax P (stops h s) (stops k t) = Lax h ⊎ ((h ≡ k) × R s t)
SideBySide R Lax P (stops h s) (asks b t g) = Lax h
SideBySide R Lax P (asks a s f) (comes b t) = ⊥
SideBySide R Lax P (asks a s f) (stops k t) = ⊥
SideBySide R Lax P (asks a s f) (asks b t g) = Asks a b × R s t × ((r q : Reply) → Replies r q → (s' t' : State) → R s' t' → SideBySide R Lax P (f r s') (g q t'))

-- ---- levels that differ in labels alone

abbrev pub Bytes1 : Written → Written → Type 0
Bytes1 v w = v.byte ≡ w.byte

abbrev pub BytesAll : List Written → List Written → Type 0
BytesAll [] [] = Unit {0}
BytesAll [] (w ∷ ws) = ⊥
BytesAll (v ∷ vs) [] = ⊥
BytesAll (v ∷ vs) (w ∷ ws) = Bytes1 v w × BytesAll vs ws

abbrev pub Objects : List Object → List Object → Type 0
Objects [] [] = Unit {0}
Objects [] (y ∷ ys) = ⊥
Objects (x ∷ xs) [] = ⊥
Objects (x ∷ xs) (y ∷ ys) = Same x.value y.value × Objects xs ys

-- the same level, but for labels
pub record Agree (a b : LevelState) : Type 0 where
  pub objects : Objects a.objects b.objects
  pub input : a.input ≡ b.input
  pub output : BytesAll a.output b.output
  pub steps_left : a.steps_left ≡ b.steps_left
  pub active : a.active ≡ b.active
  pub cost : a.cost ≡ b.cost

-- one level is the same, and nothing is asked of the others
abbrev pub AtLevel : ℕ → State → State → Type 0
AtLevel L s t = (L < length s) × (L < length t) × Agree (level_in s L) (level_in t L)

-- all levels are
abbrev pub LevelsAll : List LevelState → List LevelState → Type 0
LevelsAll [] [] = Unit {0}
LevelsAll [] (b ∷ bs) = ⊥
LevelsAll (a ∷ xs) [] = ⊥
LevelsAll (a ∷ xs) (b ∷ bs) = Agree a b × LevelsAll xs bs

-- ---- what is kept between levels

abbrev pub Contents : Content Labelled → Content Labelled → Type 0
Contents (holds xs) (holds ys) = Nums xs ys
Contents blocked blocked = Unit {0}
Contents broken broken = Unit {0}
Contents _ _ = ⊥

abbrev pub Crossing1 : Crossing → Crossing → Type 0
Crossing1 a b = (a.row ≡ b.row) × (a.reply ≡ b.reply) × Contents a.content b.content

abbrev pub Crossings : List Crossing → List Crossing → Type 0
Crossings [] [] = Unit {0}
Crossings [] (b ∷ bs) = ⊥
Crossings (a ∷ xs) [] = ⊥
Crossings (a ∷ xs) (b ∷ bs) = Crossing1 a b × Crossings xs bs

abbrev pub Between : Kept → Kept → Type 0
Between a b = (a.law ≡ b.law) × (a.houses ≡ b.houses) × Crossings a.crossings b.crossings
