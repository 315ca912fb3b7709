-- One byte of a string.
use Rattle.std.proofs.Common.{◌≡◌, ℕ, suc, zero, ◌+◌, ◌-◌, ◌<◌, true, false, eqb, List, [], ◌∷◌, ◌++◌, None, length, get_or, drop, refl, ap, ◌∙◌, arith}
use Rattle.std.proofs.lemmas.List.{at_drop_more}
use Rattle.std.proofs.lemmas.Bool.Decides.{nat_tests}
use Rattle.std.proofs.lemmas.Grind.{common_steps}
use Rattle.cl_tree.specs.declared.pieces.Escape.{Escape}
use Rattle.cl_tree.specs.declared.pieces.Escape.TheVariants.{NoEscape, TooBig, Value}
use Rattle.cl_tree.specs.Letters.{is_printable}
use Rattle.cl_tree.specs.Literals.{escape_at, by_escape, unescaped}

skip_here : (k : ℕ) (done : List ℕ) (b : ℕ) (bs : List ℕ) → 0 < k → unescaped k done (b ∷ bs) ≡ unescaped (k - 1) done bs
skip_here zero done b bs h = absurd (omega arith)
skip_here (suc k) done b bs h = let e : suc k - 1 ≡ k = omega arith in rw e refl

pub step_skip : (s : List ℕ) (i k : ℕ) (done : List ℕ) → 0 < k → i < length s → unescaped k done (drop i s) ≡ unescaped (k - 1) done (drop (i + 1) s)
step_skip s i k done h w = at_drop_more (unescaped k done) s i 0 w ∙ skip_here k done (get_or s i 0) (drop (i + 1) s) h

plain_here : (done : List ℕ) (b : ℕ) (bs : List ℕ) → eqb b 92 ≡ false → is_printable b ≡ true → unescaped 0 done (b ∷ bs) ≡ unescaped 0 (done ++ b ∷ []) bs
plain_here done b bs e p = rw (e, p) refl

pub step_plain : (s : List ℕ) (i : ℕ) (done : List ℕ) → i < length s → eqb (get_or s i 0) 92 ≡ false → is_printable (get_or s i 0) ≡ true → unescaped 0 done (drop i s) ≡ unescaped 0 (done ++ get_or s i 0 ∷ []) (drop (i + 1) s)
step_plain s i done w e p = at_drop_more (unescaped 0 done) s i 0 w ∙ plain_here done (get_or s i 0) (drop (i + 1) s) e p

odd_here : (done : List ℕ) (b : ℕ) (bs : List ℕ) → eqb b 92 ≡ false → is_printable b ≡ false → unescaped 0 done (b ∷ bs) ≡ None
odd_here done b bs e p = rw (e, p) refl

pub step_odd : (s : List ℕ) (i : ℕ) (done : List ℕ) → i < length s → eqb (get_or s i 0) 92 ≡ false → is_printable (get_or s i 0) ≡ false → unescaped 0 done (drop i s) ≡ None
step_odd s i done w e p = at_drop_more (unescaped 0 done) s i 0 w ∙ odd_here done (get_or s i 0) (drop (i + 1) s) e p

escape_here : (done : List ℕ) (b : ℕ) (bs : List ℕ) (x : Escape) → eqb b 92 ≡ true → escape_at bs ≡ x → unescaped 0 done (b ∷ bs) ≡ by_escape (λ v n. unescaped n (done ++ v ∷ []) bs) None x
escape_here done b bs x e q = rw e (ap (by_escape (λ v n. unescaped n (done ++ v ∷ []) bs) None) q)

pub step_escape : (s : List ℕ) (i : ℕ) (done : List ℕ) (v n : ℕ) → i < length s → eqb (get_or s i 0) 92 ≡ true → escape_at (drop (i + 1) s) ≡ Value v n → unescaped 0 done (drop i s) ≡ unescaped n (done ++ v ∷ []) (drop (i + 1) s)
step_escape s i done v n w e q = at_drop_more (unescaped 0 done) s i 0 w ∙ escape_here done (get_or s i 0) (drop (i + 1) s) (Value v n) e q

pub step_bad : (s : List ℕ) (i : ℕ) (done : List ℕ) → i < length s → eqb (get_or s i 0) 92 ≡ true → escape_at (drop (i + 1) s) ≡ NoEscape → unescaped 0 done (drop i s) ≡ None
step_bad s i done w e q = at_drop_more (unescaped 0 done) s i 0 w ∙ escape_here done (get_or s i 0) (drop (i + 1) s) NoEscape e q

pub step_big : (s : List ℕ) (i : ℕ) (done : List ℕ) (n : ℕ) → i < length s → eqb (get_or s i 0) 92 ≡ true → escape_at (drop (i + 1) s) ≡ TooBig n → unescaped 0 done (drop i s) ≡ None
step_big s i done n w e q = at_drop_more (unescaped 0 done) s i 0 w ∙ escape_here done (get_or s i 0) (drop (i + 1) s) (TooBig n) e q

pub ruleset steps = (common_steps, nat_tests, step_skip, step_plain, step_odd, step_escape, step_bad, step_big)
