-- Programs of nine items.
use Rattle.std.proofs.Common.{◌≡◌, List, [], ◌∷◌, ◌≤◌, ◌<◌, length, get_or, refl, arith, Some}
use Rattle.cl_tree.specs.declared.tree.Item.{Item}
use Rattle.cl_form.specs.declared.names.Pair.{Pair}
use Rattle.cl_form.specs.Reading.{◌>>=◌, names_of, bound, functions_of, pair_of}

-- the items are these nine, as reads of a slice tell
pub record AreNine (xs : List Item) (a b c d e f g h i : Item) : Type 0 where
  pub at_least : 9 ≤ length xs
  pub below : length xs < 10
  pub first : a ≡ get_or xs 0 a
  pub second : b ≡ get_or xs 1 b
  pub third : c ≡ get_or xs 2 c
  pub fourth : d ≡ get_or xs 3 d
  pub fifth : e ≡ get_or xs 4 e
  pub sixth : f ≡ get_or xs 5 f
  pub seventh : g ≡ get_or xs 6 g
  pub eighth : h ≡ get_or xs 7 h
  pub ninth : i ≡ get_or xs 8 i

nine_are : (xs : List Item) (a b c d e f g h i : Item) → AreNine xs a b c d e f g h i → xs ≡ a ∷ b ∷ c ∷ d ∷ e ∷ f ∷ g ∷ h ∷ i ∷ []
nine_are (a' ∷ b' ∷ c' ∷ d' ∷ e' ∷ f' ∷ g' ∷ h' ∷ i' ∷ []) a b c d e f g h i n =
    let p1 : a ≡ a' = n.first in
    let p2 : b ≡ b' = n.second in
    let p3 : c ≡ c' = n.third in
    let p4 : d ≡ d' = n.fourth in
    let p5 : e ≡ e' = n.fifth in
    let p6 : f ≡ f' = n.sixth in
    let p7 : g ≡ g' = n.seventh in
    let p8 : h ≡ h' = n.eighth in
    let p9 : i ≡ i' = n.ninth in
    rw (p1, p2, p3, p4, p5, p6, p7, p8, p9) refl
nine_are (a' ∷ b' ∷ c' ∷ d' ∷ e' ∷ f' ∷ g' ∷ h' ∷ i' ∷ j' ∷ js) a b c d e f g h i n = absurd (omega (arith, n.below))
nine_are [] a b c d e f g h i n = absurd (omega (arith, n.at_least))
nine_are (a' ∷ []) a b c d e f g h i n = absurd (omega (arith, n.at_least))
nine_are (a' ∷ b' ∷ []) a b c d e f g h i n = absurd (omega (arith, n.at_least))
nine_are (a' ∷ b' ∷ c' ∷ []) a b c d e f g h i n = absurd (omega (arith, n.at_least))
nine_are (a' ∷ b' ∷ c' ∷ d' ∷ []) a b c d e f g h i n = absurd (omega (arith, n.at_least))
nine_are (a' ∷ b' ∷ c' ∷ d' ∷ e' ∷ []) a b c d e f g h i n = absurd (omega (arith, n.at_least))
nine_are (a' ∷ b' ∷ c' ∷ d' ∷ e' ∷ f' ∷ []) a b c d e f g h i n = absurd (omega (arith, n.at_least))
nine_are (a' ∷ b' ∷ c' ∷ d' ∷ e' ∷ f' ∷ g' ∷ []) a b c d e f g h i n = absurd (omega (arith, n.at_least))
nine_are (a' ∷ b' ∷ c' ∷ d' ∷ e' ∷ f' ∷ g' ∷ h' ∷ []) a b c d e f g h i n = absurd (omega (arith, n.at_least))

-- what is left to read once the names are found
pub pair_goes : (xs : List Item) (a b c d e f g h i : Item) (p : Pair) → AreNine xs a b c d e f g h i → names_of a b c d f h ≡ Some p
    → pair_of xs ≡ (bound p c d e g >>= λ p. functions_of p h i)
unfolding pair_of
pair_goes xs a b c d e f g h i p n s = rw (nine_are xs a b c d e f g h i n, s) refl
