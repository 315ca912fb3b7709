-- The number of a word that is there is below their count.
use Rattle.std.proofs.Common.{◌≡◌, ◌<◌, ℕ, suc, arith, List, [], ◌∷◌, ◌++◌, length, refl, sym, Bool, true, false, ◌||◌, bytes_eq, if◌then◌else◌}
use Rattle.cl_tree.specs.Words.{Word}
use Rattle.cl_labelling.specs.Names.{has_word, number_of, with_level}
use Rattle.typing_laws.proofs.Lists.{same_word, word_same}

below_by : (b c more : Bool) (n k : ℕ) → (b ≡ true → c ≡ true) → (more ≡ true → k < n) → (b || more) ≡ true → (if c then 0 else suc k) < suc n
below_by b true more n k f g h = omega arith
below_by true false more n k f g h = let e : false ≡ true = f refl in absurd cc
below_by false false more n k f g h = let l : k < n = g h in omega arith

pub number_below : (ws : List Word) (w : Word) → has_word ws w ≡ true → number_of ws w < length ws
unfolding has_word number_of
number_below [] w h = absurd cc
number_below (v ∷ vs) w h =
    below_by (bytes_eq w v) (bytes_eq v w) (has_word vs w) (length vs) (number_of vs w)
    (λ e. word_same v w (sym (same_word w v e))) (number_below vs w) h

or_left : (a b : Bool) → a ≡ true → (a || b) ≡ true
or_left true b e = refl
or_left false b e = absurd cc

or_right : (a b : Bool) → b ≡ true → (a || b) ≡ true
or_right true b e = refl
or_right false b e = e

either : (a b c : Bool) → (b ≡ true → c ≡ true) → (a || b) ≡ true → (a || c) ≡ true
either true b c f h = refl
either false b c f h = f h

pub has_more : (ws : List Word) (v w : Word) → has_word ws w ≡ true → has_word (ws ++ v ∷ []) w ≡ true
unfolding has_word
has_more [] v w h = absurd cc
has_more (u ∷ us) v w h = either (bytes_eq w u) (has_word us w) (has_word (us ++ v ∷ []) w) (has_more us v w) h

pub has_last : (ws : List Word) (v : Word) → has_word (ws ++ v ∷ []) v ≡ true
unfolding has_word
has_last [] v = or_left (bytes_eq v v) false (word_same v v refl)
has_last (u ∷ us) v = or_right (bytes_eq v u) (has_word (us ++ v ∷ []) v) (has_last us v)

pub with_kept : (ws : List Word) (v w : Word) → has_word ws w ≡ true → has_word (with_level ws v) w ≡ true
with_kept ws v w h = by (has_word ws v)
  where
    by : (b : Bool) → has_word (if b then ws else ws ++ v ∷ []) w ≡ true
    by true = h
    by false = has_more ws v w h

pub with_there : (ws : List Word) (v : Word) → has_word (with_level ws v) v ≡ true
with_there ws v = by (has_word ws v) refl
  where
    by : (b : Bool) → has_word ws v ≡ b → has_word (if b then ws else ws ++ v ∷ []) v ≡ true
    by true e = e
    by false e = has_last ws v
