-- Where a word is cut.
use Rattle.std.proofs.Common.{Bor, ◌≡◌, ◌<◌, ℕ, List, [], ◌∷◌, Bool, true, false, length, Option, None, Some, arith, refl}
use Rattle.std.proofs.lemmas.Str.Pattern.{IsSplitOnceResult, split_once_first}
use Rattle.std.specs.Option.{MatchOption}
use Rattle.std.specs.List.{list_any, position_or_len, before_first, after_first}
use Rattle.cl_words.specs.Settings.{is_equals, cut}

-- no byte passes where the first that does would stand at the end, and one does before the end
none_passes : (test : ℕ → Bool) (xs : List ℕ) → position_or_len test xs ≡ length xs → list_any test xs ≡ false
none_passes test [] e = refl
none_passes test (x ∷ xs) e = grind (arith, none_passes test xs)

one_passes : (test : ℕ → Bool) (xs : List ℕ) → position_or_len test xs < length xs → list_any test xs ≡ true
one_passes test [] e = absurd (omega arith)
one_passes test (x ∷ xs) e = grind (arith, one_passes test xs)

-- what `split_once` answers, in the words of the definition
halves : (word : List ℕ) (r : Option (Bor (List ℕ) × Bor (List ℕ))) → MatchOption r (position_or_len is_equals word ≡ length word) (λ x. (position_or_len is_equals word < length word) × (x.0.now ≡ before_first is_equals word) × (x.1.now ≡ after_first is_equals word)) → MatchOption r (list_any is_equals word ≡ false) (λ x. (list_any is_equals word ≡ true) × (cut word ≡ record { name = x.0.now; value = x.1.now }))
halves word None h = none_passes is_equals word h
halves word (Some x) h = (one_passes is_equals word h.0, cc)

pub split_halves : (word : List ℕ) (r : Option (Bor (List ℕ) × Bor (List ℕ))) → IsSplitOnceResult 61 word r → MatchOption r (list_any is_equals word ≡ false) (λ x. (list_any is_equals word ≡ true) × (cut word ≡ record { name = x.0.now; value = x.1.now }))
split_halves word r h = halves word r (split_once_first 61 word r h (omega arith))
