-- One byte of the walk that removes the joins.
use Rattle.std.proofs.Common.{◌≡◌, ℕ, suc, zero, ◌+◌, ◌-◌, ◌<◌, cond, eqb, List, [], ◌∷◌, ◌++◌, length, get_or, drop, map, refl, sym, ap, ◌∙◌, arith}
use Rattle.std.proofs.lemmas.List.{at_drop_more, append_assoc, length-map}
use Rattle.cl_tree.specs.declared.pieces.Place.{Place}
use Rattle.std.proofs.lemmas.Grind.{common_steps}
use Rattle.std.proofs.lemmas.Bool.Decides.{nat_tests}
use Rattle.cl_tree.specs.Joins.{bytes_of, places_of, Cell, cell, cells, join_len, line_after}

skip_here : (k p l b : ℕ) (bs : List ℕ) → 0 < k → cells k p l (b ∷ bs) ≡ cells (k - 1) (p + 1) (line_after l b) bs
skip_here zero p l b bs h = absurd (omega arith)
skip_here (suc k) p l b bs h = let e : suc k - 1 ≡ k = omega arith in rw e refl

pub cells_skip : (s : List ℕ) (i k l : ℕ) → 0 < k → i < length s → cells k i l (drop i s) ≡ cells (k - 1) (i + 1) (line_after l (get_or s i 0)) (drop (i + 1) s)
cells_skip s i k l h w = at_drop_more (cells k i l) s i 0 w ∙ skip_here k i l (get_or s i 0) (drop (i + 1) s) h

keep_here : (p l : ℕ) (xs : List ℕ) (b : ℕ) (bs : List ℕ) → xs ≡ b ∷ bs → join_len xs ≡ 0 → cells 0 p l xs ≡ cell p l b ∷ cells 0 (p + 1) (line_after l b) bs
keep_here p l xs b bs e h = let j : join_len (b ∷ bs) ≡ 0 = ap join_len (sym e) ∙ h in ap (cells 0 p l) e ∙ ap (λ (n : ℕ). cond (eqb n 0) (cell p l b ∷ cells 0 (p + 1) (line_after l b) bs) (cells (n - 1) (p + 1) (line_after l b) bs)) j

pub cells_keep : (s : List ℕ) (i l : ℕ) → join_len (drop i s) ≡ 0 → i < length s → cells 0 i l (drop i s) ≡ cell i l (get_or s i 0) ∷ cells 0 (i + 1) (line_after l (get_or s i 0)) (drop (i + 1) s)
cells_keep s i l h w = keep_here i l (drop i s) (get_or s i 0) (drop (i + 1) s) (at_drop_more (λ xs. xs) s i 0 w) h

joined : {A : Type 0} (n j : ℕ) (x : A) (f : ℕ → A) → n ≡ j + 1 → cond (eqb n 0) x (f (n - 1)) ≡ f j
joined n j x f h = let e : n - 1 ≡ j = omega arith in rw e (grind (arith, nat_tests))

join_here : (p l : ℕ) (xs : List ℕ) (b : ℕ) (bs : List ℕ) (j : ℕ) → xs ≡ b ∷ bs → join_len xs ≡ j + 1 → cells 0 p l xs ≡ cells j (p + 1) (line_after l b) bs
join_here p l xs b bs j e h = ap (cells 0 p l) e ∙ joined (join_len (b ∷ bs)) j _ (λ n. cells n (p + 1) (line_after l b) bs) (ap join_len (sym e) ∙ h)

pub cells_join : (s : List ℕ) (i l j : ℕ) → join_len (drop i s) ≡ j + 1 → i < length s → cells 0 i l (drop i s) ≡ cells j (i + 1) (line_after l (get_or s i 0)) (drop (i + 1) s)
cells_join s i l j h w = join_here i l (drop i s) (get_or s i 0) (drop (i + 1) s) j (at_drop_more (λ xs. xs) s i 0 w) h

pub ruleset joins = (common_steps, cells_skip, cells_keep, cells_join)

-- a byte that is kept
pub kept_one : {A : Type 0} (f : Cell → A) (s : List ℕ) (i k l : ℕ) (items pushed : List A) (x : A) (whole : List A) → items ++ map f (cells k i l (drop i s)) ≡ whole → k ≡ 0 → join_len (drop i s) ≡ 0 → i < length s → x ≡ f (cell i l (get_or s i 0)) → pushed ≡ items ++ x ∷ [] → pushed ++ map f (cells k (i + 1) (line_after l (get_or s i 0)) (drop (i + 1) s)) ≡ whole
kept_one f s i k l items pushed x whole q z h w e p =
    let rest = cells k (i + 1) (line_after l (get_or s i 0)) (drop (i + 1) s) in
    let here : cells k i l (drop i s) ≡ cell i l (get_or s i 0) ∷ rest = rw z (cells_keep s i l h w) in
    ap (λ y. y ++ map f rest) (p ∙ ap (λ y. items ++ y ∷ []) e) ∙ append_assoc items (f (cell i l (get_or s i 0)) ∷ []) (map f rest) ∙ ap (λ y. items ++ map f y) (sym here) ∙ q

pub same_len : (s bytes : List ℕ) (places : List Place) → bytes ≡ bytes_of s → places ≡ places_of s → length bytes ≡ length places
unfolding bytes_of places_of
same_len s bytes places a b = ap length a ∙ length-map (cells 0 0 1 s) (λ c. c.byte) ∙ sym (length-map (cells 0 0 1 s) (λ c. c.place)) ∙ ap length (sym b)
