-- The bytes of a name are ASCII, and so a text.
use Rattle.std.proofs.Common.{◌≡◌, ℕ, suc, zero, ◌+◌, ◌<◌, Bool, true, false, cond, List, [], ◌∷◌, get_or, take, refl, arith}
use Rattle.std.specs.List.{list_all, prefix_len}
use Rattle.std.specs.Str.{IsUtf8}
use Rattle.std.proofs.lemmas.Str.{IsUtf8-from_ascii}
use Rattle.std.proofs.lemmas.Bool.Decides.{nat_tests}
use Rattle.cl_tree.specs.Letters.{is_letter, is_digit, is_word}
use Rattle.cl_tree.specs.Directives.{word, word_len}
use Rattle.cl_literals.proofs.Tests.{and_left, and_right}

word_small : (b : ℕ) → is_word b ≡ true → b < 128
unfolding is_word is_letter is_digit
word_small b e = grind (arith, nat_tests)

words_small : (bs : List ℕ) → list_all is_word bs ≡ true → (i : ℕ) → get_or bs i 0 < 128
words_small [] e i = omega arith
words_small (b ∷ bs) e zero = word_small b (and_left (is_word b) (list_all is_word bs) e)
words_small (b ∷ bs) e (suc i) = words_small bs (and_right (is_word b) (list_all is_word bs) e) i

pub words_utf8 : (bs : List ℕ) → list_all is_word bs ≡ true → IsUtf8 bs
words_utf8 bs e = IsUtf8-from_ascii bs (words_small bs e)

-- the name that a text begins with
front_step : (x : ℕ) (xs : List ℕ) (t : Bool) → is_word x ≡ t → list_all is_word (take (prefix_len is_word xs) xs) ≡ true → list_all is_word (take (cond t (1 + prefix_len is_word xs) 0) (x ∷ xs)) ≡ true
front_step x xs true e h = let s : 1 + prefix_len is_word xs ≡ suc (prefix_len is_word xs) = omega arith in rw (s, e) h
front_step x xs false e h = refl

pub front_words : (xs : List ℕ) → list_all is_word (take (prefix_len is_word xs) xs) ≡ true
front_words [] = refl
front_words (x ∷ xs) = front_step x xs (is_word x) refl (front_words xs)

pub word_words : (xs : List ℕ) → list_all is_word (word xs) ≡ true
unfolding word word_len
word_words xs = elim (is_letter (get_or xs 0 0)) as (λ t. list_all is_word (take (cond t (prefix_len is_word xs) 0) xs) ≡ true) [ true ↦ front_words xs | false ↦ refl ]
