-- The widest of some entrances.
use Rattle.std.proofs.Common.{◌≡◌, ℕ, ◌+◌, ◌<◌, ◌≤◌, List, Option, Some, None, length, get_or, refl, sym, ap, ◌∙◌, arith, rules, ⊎_elim, nat_cmp}
use Rattle.std.specs.Prelude.{slice_get, IfSome, IfNone}
use Rattle.std.specs.Ordering.{ord_max}
use Rattle.std.proofs.lemmas.Bool.{cases_lt}
use Rattle.std.proofs.lemmas.Option.{slice_get-get_or}
use Rattle.en_image.specs.declared.image.Entrance.{Entrance}
use Rattle.en_image.specs.declared.image.Image.{Image}
use Rattle.en_image.specs.Entrances.{IsWidest}

-- no entrance before a place has more cells
abbrev pub IsWidestBelow : List (Option Entrance) → ℕ → ℕ → Type 0
IsWidestBelow fs i n = (k : ℕ) (e : Entrance) → k < i → slice_get fs k ≡ Some (Some e) → e.cells ≤ n

-- so many entrances were seen, and this is the largest number of their cells
pub record Seen (image : Image) (i n : ℕ) : Type 0 where
  pub widest : IsWidestBelow image.functions i n
  pub least : (most : ℕ) → IsWidest image most → n ≤ most

here : (o : Option Entrance) (e : Entrance) (c : ℕ) → IfSome o (λ x. x.cells ≡ c) → Some o ≡ Some (Some e) → e.cells ≤ c
here None e c h s = absurd (let n : None ≡ Some e = cc in cc)
here (Some x) e c h s = let v : x ≡ e = cc in let w = ap (λ (y : Entrance). y.cells) v in omega (arith, w, h)

largest : (a b : ℕ) → (a ≤ ord_max nat_cmp a b) × (b ≤ ord_max nat_cmp a b)
largest a b = (search rules, search rules)

pub widest_more : (fs : List (Option Entrance)) (i n c more : ℕ) → IsWidestBelow fs i n → i < length fs → IfSome (get_or fs i None) (λ e. e.cells ≡ c) → more ≡ ord_max nat_cmp n c → IsWidestBelow fs (i + 1) more
widest_more fs i n c more below lt here_is m = λ k e within s. ⊎_elim
    (λ before. let b = below k e before s in let l = largest n c in omega (arith, b, l.0, m))
    (λ after.
    let j : k ≡ i = omega arith in
    let at = sym (slice_get-get_or fs i None lt) ∙ ap (slice_get fs) (sym j) ∙ s in
    let b = here (get_or fs i None) e c here_is at in
    let l = largest n c in
    omega (arith, b, l.1, m))
    (cases_lt k i)

small : (o : Option Entrance) (c most : ℕ) → IfSome o (λ e. e.cells ≡ c) → IfNone o (c ≡ 0) → ((e : Entrance) → o ≡ Some e → e.cells ≤ most) → c ≤ most
small None c most h z b = omega (arith, z)
small (Some e) c most h z b = let w = b e refl in omega (arith, w, h)

either_below : (n c more most : ℕ) → n ≤ most → c ≤ most → more ≡ ord_max nat_cmp n c → more ≤ most
either_below n c more most h k m = rw m (search rules)

pub least_more : (image : Image) (i n c more most : ℕ) → n ≤ most → IsWidest image most → i < length image.functions → IfSome (get_or image.functions i None) (λ e. e.cells ≡ c) → IfNone (get_or image.functions i None) (c ≡ 0) → more ≡ ord_max nat_cmp n c → more ≤ most
least_more image i n c more most below wide lt some none m =
    let b = small (get_or image.functions i None) c most some none (λ e is. wide i e (slice_get-get_or image.functions i None lt ∙ ap Some is)) in
    either_below n c more most below b m
