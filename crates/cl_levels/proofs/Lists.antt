-- The places of a list: the first one is its head.
use Rattle.std.proofs.Common.{◌≡◌, inl, inr, ◌≤◌, ℕ, zero, suc, List, [], ◌∷◌, Some, slice_get, map, refl, sym, ap, ◌∙◌, arith}
use Rattle.std.proofs.lemmas.Option.{none-some, same_Some}
use Rattle.cl_typing.specs.Rules.{Lines, Rule, AllHold, FirstFails, Begins}
use Rattle.cl_levels.specs.Placed.{listed, Holds, IsFirst, as_placed, AllPlacedHold, FirstPlacedFails}

pub holds_empty : (lines : Lines) → Holds (listed lines) → lines ≡ []
holds_empty [] h = refl
holds_empty (l ∷ ls) h = absurd (h 0 l refl)

pub empty_holds : (lines : Lines) → lines ≡ [] → Holds (listed lines)
empty_holds lines e position line h = none-some line (ap (λ ls. slice_get ls position) (sym e) ∙ h)

abbrev head_is : Lines → ℕ → Type 0
head_is lines line = (rest : Lines) × (lines ≡ line ∷ rest)

at_start : (lines : Lines) (line position : ℕ) → position ≡ 0 → slice_get lines position ≡ Some line → head_is lines line
at_start [] line position z e = absurd (none-some line e)
at_start (l ∷ ls) line zero z e = (ls, ap (λ (x : ℕ). x ∷ ls) (same_Some l line e))
at_start (l ∷ ls) line (suc p) z e = absurd (omega arith)

begun : (lines : Lines) (line position : ℕ) → slice_get lines position ≡ Some line → ((other at : ℕ) → listed lines other at → position ≤ other) → head_is lines line
begun [] line position e least = absurd (none-some line e)
begun (l ∷ ls) line position e least = let z : position ≤ 0 = least 0 l refl in at_start (l ∷ ls) line position (omega arith) e

pub first_begins : (lines : Lines) (line : ℕ) → IsFirst (listed lines) line → Begins lines line
first_begins lines line f = begun lines line f.0 f.1.0 f.1.1

pub begins_first : (lines : Lines) (line : ℕ) → Begins lines line → IsFirst (listed lines) line
begins_first lines line b = (0, (ap (λ ls. slice_get ls 0) b.1, λ other at e. omega arith))

pub all_hold : (rs : List Rule) → AllPlacedHold (map as_placed rs) → AllHold rs
all_hold [] h = h
all_hold (r ∷ rs) h = (holds_empty r.places h.0, all_hold rs h.1)

pub all_placed_hold : (rs : List Rule) → AllHold rs → AllPlacedHold (map as_placed rs)
all_placed_hold [] h = h
all_placed_hold (r ∷ rs) h = (empty_holds r.places h.0, all_placed_hold rs h.1)

pub fails : (rs : List Rule) (number line : ℕ) → FirstPlacedFails (map as_placed rs) number line → FirstFails rs number line
fails [] number line f = f
fails (r ∷ rs) number line (inl f) = inl (f.0, first_begins r.places line f.1)
fails (r ∷ rs) number line (inr f) = inr (holds_empty r.places f.0, fails rs number line f.1)

pub placed_fails : (rs : List Rule) (number line : ℕ) → FirstFails rs number line → FirstPlacedFails (map as_placed rs) number line
placed_fails [] number line f = f
placed_fails (r ∷ rs) number line (inl f) = inl (f.0, begins_first r.places line f.1)
placed_fails (r ∷ rs) number line (inr f) = inr (empty_holds r.places f.0, placed_fails rs number line f.1)
