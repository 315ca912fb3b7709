-- A program whose groups have one level each has no two lists of levels.
use Rattle.std.proofs.Common.{◌≡◌, ◌⊎◌, inl, inr, ⊎_elim, ◌<◌, ℕ, zero, suc, ◌+◌, List, [], ◌∷◌, length, Option, Some, None, slice_index_or, bytes_eq, Bool, true, false, codes, if◌then◌else◌, refl, sym, ap, subst, ◌∙◌, arith}
use Rattle.std.proofs.lemmas.Bool.{cases_eq}
use Rattle.std.proofs.lemmas.Grind.{same_number_lists}
use Rattle.std.proofs.lemmas.Option.{none-some, same_Some}
use Rattle.cl_mean.specs.declared.checked.FnFact.{FnFact}
use Rattle.cl_mean.specs.declared.checked.Levels.{Levels}
use Rattle.cl_tree.specs.Words.{Word}
use Rattle.cl_levels.specs.Levels.{Annotated, Symbol, function, object, label_of, own_level, IsFree, IsSymbol, symbol_line, GroupHas, HasNone, HasTwo, LevelOr, IsMainLevel, IsLevel, AreLevels, IsLevelled, two_levels}
use Rattle.cl_levels.specs.Placed.{Holds}
use Rattle.cl_levels.specs.Uses.{number_from, number_among}

-- a number among functions is one of theirs
pub number_below : (k : ℕ) (fs : List FnFact) (name : Word) (n : ℕ) → number_from k fs name ≡ Some n → n < k + length fs
unfolding number_from
number_below k [] name n e = absurd (none-some n e)
number_below k (f ∷ fs) name n e = by (bytes_eq f.name name) (number_below (suc k) fs name n) e
  where
    by : (b : Bool) → (number_from (suc k) fs name ≡ Some n → n < suc k + length fs) → (if b then Some k else number_from (suc k) fs name) ≡ Some n → n < k + length (f ∷ fs)
    by true rest h = let i : k ≡ n = same_Some k n h in omega arith
    by false rest h = let l : n < suc k + length fs = rest h in omega arith

module _ (a : Annotated) where
  free_own : (x : Symbol) (level : ℕ) → IsFree a x → own_level a x ≡ Some level → ⊥
  free_own x level free e = none-some level (sym (none_there (label_of a x) refl free) ∙ e)
    where
      none_there : (o : Option ℕ) → label_of a x ≡ o → o ≡ None → own_level a x ≡ None
      none_there o i n = rw i (rw n refl)

  module _ (one : Holds (two_levels a)) where
    not_two : (x : Symbol) → IsSymbol a x → IsFree a x → (k l : ℕ) → GroupHas a x k → GroupHas a x l → k ≡ l
    not_two x here free k l g h = ⊎_elim (λ (e : k ≡ l). e)
        (λ (n : k ≡ l → ⊥). absurd (one (symbol_line a x) (symbol_line a x) (refl, (x, (here, (free, ((k, (l, (g, (h, n)))), refl)))))))
        (cases_eq k l)

    same_or : (O P : ℕ → Type 0) → ((k l : ℕ) → O k → P l → k ≡ l) → (x : Symbol) → IsSymbol a x → (k l : ℕ)
        → LevelOr O a x k → LevelOr P a x l → k ≡ l
    same_or O P unique x here k l (inl e) (inl f) = same_Some k l (sym e ∙ f)
    same_or O P unique x here k l (inl e) (inr f) = absurd (free_own x k f.0 e)
    same_or O P unique x here k l (inr e) (inl f) = absurd (free_own x l e.0 f)
    same_or O P unique x here k l (inr (free, inl g)) (inr (_, inl h)) = not_two x here free k l g h
    same_or O P unique x here k l (inr (free, inl g)) (inr (_, inr h)) = absurd (h.0 k g)
    same_or O P unique x here k l (inr (free, inr g)) (inr (_, inl h)) = absurd (g.0 l h)
    same_or O P unique x here k l (inr (free, inr g)) (inr (_, inr h)) = unique k l g.1 h.1

    one_main : (k l : ℕ) → IsMainLevel a k → IsMainLevel a l → k ≡ l
    one_main k l g h =
        let e : g.0 ≡ h.0 = same_Some g.0 h.0 (sym g.1.0 ∙ h.1.0) in
        let below : g.0 < 0 + length a.typed.functions = number_below 0 a.typed.functions (codes "main") g.0 g.1.0 in
        same_or (λ l. l ≡ 0) (λ l. l ≡ 0) (λ k l i j. i ∙ sym j) (function g.0) (omega arith) k l g.1.1
        (subst (λ m. LevelOr (λ l. l ≡ 0) a (function m) l) (sym e) h.1.1)

    same_levels : (symbol : ℕ → Symbol) (xs ys : List ℕ) → length xs ≡ length ys → ((k : ℕ) → k < length xs → IsSymbol a (symbol k))
        → AreLevels symbol a xs → AreLevels symbol a ys → xs ≡ ys
    same_levels symbol xs ys n here f g = same_number_lists xs ys n (λ k l.
        same_or (IsMainLevel a) (IsMainLevel a) one_main (symbol k) (here k l) (slice_index_or xs k 0) (slice_index_or ys k 0) (f k l) (g k (subst (λ m. k < m) n l)))

    pub one_levels : (x y : Levels) → IsLevelled a x → IsLevelled a y → x ≡ y
    one_levels x y f g =
        let e = same_levels function x.of_functions y.of_functions (f.functions ∙ sym g.functions) (λ k l. subst (λ n. k < n) f.functions l) f.of_functions g.of_functions in
        let h = same_levels object x.of_objects y.of_objects (f.objects ∙ sym g.objects) (λ k l. subst (λ n. k < n) f.objects l) f.of_objects g.of_objects in
        ap (λ fs. record { of_functions = fs; of_objects = x.of_objects; main = x.main }) e
        ∙ ap (λ os. record { of_functions = y.of_functions; of_objects = os; main = x.main }) h
        ∙ ap (λ m. record { of_functions = y.of_functions; of_objects = y.of_objects; main = m }) (one_main x.main y.main f.main g.main)

  pub two_one_line : (position line other : ℕ) → two_levels a position line → two_levels a position other → line ≡ other
  two_one_line position line other f g = sym f.0 ∙ g.0
