-- Values: numbers with the labels that they carry, in the shape of their C type.
use Rattle.std.specs.Prelude.{ℕ, zero, suc, Bool, true, false, ◌==◌, ◌&&◌, ℤ, List, [], ◌∷◌, ◌++◌, if◌then◌else◌}
use Rattle.std.specs.List.{list_any}
use Rattle.cl_mean.specs.declared.labels.Mention.{Mention}
use Rattle.cl_mean.specs.declared.labels.Mention.TheVariants.{Label, Level}

-- ---- labels

abbrev pub is_same : Mention → Mention → Bool
is_same (Label a) (Label b) = a == b
is_same (Level a) (Level b) = a == b
is_same _ _ = false

abbrev pub is_among : List Mention → Mention → Bool
is_among labels m = list_any (is_same m) labels

-- the labels of both, none twice
infixl 66 ◌∪◌
abbrev pub ◌∪◌ : List Mention → List Mention → List Mention
a ∪ [] = a
a ∪ (m ∷ ms) = if is_among a m then a ∪ ms else (a ++ m ∷ []) ∪ ms

-- a list of labels, none twice
abbrev pub once : List Mention → List Mention
once labels = [] ∪ labels

-- ---- numbers

pub record Labelled : Type 0 where
  pub number : ℤ
  pub labels : List Mention

-- a number that carries nothing
abbrev pub bare : ℤ → Labelled
bare n = record { number = n; labels = [] }

abbrev pub carries_too : List Mention → Labelled → Labelled
carries_too more x = record { number = x.number; labels = x.labels ∪ more }

abbrev pub carries_just : List Mention → Labelled → Labelled
carries_just labels x = record { number = x.number; labels = labels }

-- ---- values

-- A value is a number, or the values of its parts: of a struct's members, of an array's elements.
infixr 65 ◌then◌
mutual
  pub data Value : Type 0 where
    number : Labelled → Value
    parts : Values → Value

  pub data Values : Type 0 where
    no_more : Values
    ◌then◌ : Value → Values → Values

-- what a function without a result gives
abbrev pub no_value : Value
no_value = parts no_more

-- the integers of a value in declared order
abbrev mutual
  pub leaves : Value → List Labelled
  leaves (number x) = x ∷ []
  leaves (parts vs) = all_leaves vs

  pub all_leaves : Values → List Labelled
  all_leaves no_more = []
  all_leaves (v then vs) = leaves v ++ all_leaves vs

-- a value with each of its integers changed
abbrev mutual
  pub each : (Labelled → Labelled) → Value → Value
  each f (number x) = number (f x)
  each f (parts vs) = parts (each_of f vs)

  pub each_of : (Labelled → Labelled) → Values → Values
  each_of f no_more = no_more
  each_of f (v then vs) = each f v then each_of f vs

-- ---- parts

abbrev pub nth : Values → ℕ → Value
nth no_more i = no_value
nth (v then vs) zero = v
nth (v then vs) (suc i) = nth vs i

abbrev pub with_nth : Values → ℕ → Value → Values
with_nth no_more i w = no_more
with_nth (v then vs) zero w = w then vs
with_nth (v then vs) (suc i) w = v then with_nth vs i w

abbrev pub part : Value → ℕ → Value
part (number x) i = no_value
part (parts vs) i = nth vs i

abbrev pub with_part : Value → ℕ → Value → Value
with_part (number x) i w = number x
with_part (parts vs) i w = parts (with_nth vs i w)

-- there is such a part
abbrev pub is_nth : Values → ℕ → Bool
is_nth no_more i = false
is_nth (v then vs) zero = true
is_nth (v then vs) (suc i) = is_nth vs i

abbrev pub is_part : Value → ℕ → Bool
is_part (number x) i = false
is_part (parts vs) i = is_nth vs i

-- there is a part at each step of a path
abbrev pub is_path : Value → List ℕ → Bool
is_path v [] = true
is_path v (i ∷ path) = is_part v i && is_path (part v i) path

-- the part at a path, which names a part at each step
abbrev pub at_path : Value → List ℕ → Value
at_path v [] = v
at_path v (i ∷ path) = at_path (part v i) path

abbrev pub with_path : Value → List ℕ → Value → Value
with_path v [] w = w
with_path v (i ∷ path) w = with_part v i (with_path (part v i) path w)
