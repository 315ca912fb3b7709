-- The words are their options with their values, and the others behind them.
use Rattle.std.proofs.Common.{◌≡◌, ℕ, List, [], ◌∷◌, ◌++◌, Bool, true, false, ◌&&◌, if◌then◌else◌, arith, refl, sym, ap, inl, inr}
use Rattle.std.proofs.lemmas.Grind.{common_steps}
use Rattle.std.specs.List.{list_any, before_first, after_first}
use Rattle.cl_words.specs.Settings.{Word, is_equals, is_joined, is_option, cut, settings, others}
use Rattle.cl_words.specs.Lines.{IsLine}

-- a text with an equals sign is what stands before the first, the sign, and what stands behind it
cut_whole : (xs : List ℕ) → list_any is_equals xs ≡ true → before_first is_equals xs ++ (61 ∷ after_first is_equals xs) ≡ xs
cut_whole [] e = cc
cut_whole (x ∷ xs) e = grind (arith, common_steps, cut_whole xs)

joined_has : (option has : Bool) → option && has ≡ true → has ≡ true
joined_has true has e = e
joined_has false has e = cc

joined_whole : (word : Word) → is_joined word ≡ true → word ∷ [] ≡ ((cut word).name ++ (61 ∷ (cut word).value)) ∷ []
joined_whole word e = ap (λ (w : Word). w ∷ []) (sym (cut_whole word (joined_has (is_option word) (list_any is_equals word) e)))

last : (word : Word) (joined : Bool) → is_joined word ≡ joined → IsLine (if joined then cut word ∷ [] else []) (if joined then [] else word ∷ []) (word ∷ [])
last word true e = (word ∷ [], [], refl, inl (joined_whole word e), refl)
last word false e = refl

more : (word next : Word) (words : List Word) (joined option : Bool) → is_joined word ≡ joined → IsLine (settings (next ∷ words)) (others (next ∷ words)) (next ∷ words) → IsLine (settings words) (others words) words → IsLine (if joined then cut word ∷ settings (next ∷ words) else (if option then record { name = word; value = next } ∷ settings words else [])) (if joined then others (next ∷ words) else (if option then others words else word ∷ next ∷ words)) (word ∷ next ∷ words)
more word next words true option e behind two = (word ∷ [], next ∷ words, refl, inl (joined_whole word e), behind)
more word next words false true e behind two = (word ∷ next ∷ [], words, refl, inr refl, two)
more word next words false false e behind two = refl

pub line : (words : List Word) → IsLine (settings words) (others words) words
line [] = refl
line (word ∷ []) = last word (is_joined word) refl
line (word ∷ next ∷ words) = more word next words (is_joined word) (is_option word) refl (line (next ∷ words)) (line words)
