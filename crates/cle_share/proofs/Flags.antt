-- What is noted of labels, declaration by declaration.
use Rattle.std.proofs.Common.{◌≡◌, ◌⊎◌, inl, inr, ℕ, zero, suc, ◌<◌, ◌==◌, ◌≢◌, Bool, true, false, ◌&&◌, List, [], ◌∷◌, drop, length, Option, Some, None, slice_get, slice_index_or, slice_set, refl, sym, ap, subst, ◌∙◌, arith, drop-cons, if◌then◌else◌}
use Rattle.std.proofs.lemmas.Bool.{false≢true}
use Rattle.std.proofs.lemmas.Bool.Decides.{eqb_tells}
use Rattle.std.proofs.lemmas.List.{get_or-set_other, get_or-set_same}
use Rattle.std.proofs.lemmas.Option.{none-some}
use Rattle.cle_share.specs.declared.bearings.Bearing as code
use Rattle.cle_share.specs.Bearings.{Bearing, Known, bearings, lends_by, lends, lends_for, all_lend, flag_at}

in_range : (rows : List (List Bool)) (k : ℕ) (l : List Bool) → slice_get rows k ≡ Some l → k < length rows
in_range [] k l e = absurd (none-some l e)
in_range (x ∷ xs) zero l e = omega arith
in_range (x ∷ xs) (suc k) l e = let h : k < length xs = in_range xs k l e in omega arith

and_false : (b : Bool) → (b && false) ≡ false
and_false true = refl
and_false false = refl

module _ (rows : List (List Bool)) (known : Known) where
  lends_false : (b : Bearing) → lends rows known b ≡ false → b.label < length rows
  lends_false b e = by (slice_get rows b.label) refl e
    where
      by : (o : Option (List Bool)) → slice_get rows b.label ≡ o → lends_by o (known b.function) ≡ false → b.label < length rows
      by None i e = absurd (false≢true (sym e))
      by (Some l) i e = in_range rows b.label l i

  passes : (b : Bearing) (k : ℕ) → lends rows known b ≡ true → lends_for rows known k b ≡ true
  passes b k e = by (b.label == k)
    where
      by : (t : Bool) → (if t then lends rows known b else true) ≡ true
      by true = e
      by false = refl

  fails : (flags : List Bool) (b : Bearing) (rest : Bool) → lends rows known b ≡ false → b.label < length flags
      → (k : ℕ) → (flag_at (slice_set flags b.label false) k && rest) ≡ (flag_at flags k && (lends_for rows known k b && rest))
  fails flags b rest e within k = by (eqb_tells b.label k)
    where
      by : ((b.label == k) ≡ true) × (b.label ≡ k) ⊎ ((b.label == k) ≡ false) × (b.label ≢ k) → (flag_at (slice_set flags b.label false) k && rest) ≡ (flag_at flags k && (lends_for rows known k b && rest))
      by (inl h) =
          let new : flag_at (slice_set flags b.label false) k ≡ false = subst (λ (n : ℕ). flag_at (slice_set flags b.label false) n ≡ false) h.1 (get_or-set_same flags b.label false true within) in
          rw (new, h.0, e) (sym (and_false (flag_at flags k)))
      by (inr h) = rw h.0 (ap (λ (x : Bool). x && rest) (get_or-set_other flags b.label k false true (λ q. h.1 (sym q))))

  pub noted : (flags new : List Bool) (b : Bearing) (rest : List Bearing) (holds : Bool) → holds ≡ lends rows known b
      → (holds ≡ true → new ≡ flags) → (holds ≡ false → b.label < length flags → new ≡ slice_set flags b.label false) → length flags ≡ length rows
      → (k : ℕ) → (flag_at new k && all_lend rows known k rest) ≡ (flag_at flags k && all_lend rows known k (b ∷ rest))
  noted flags new b rest true is kept cleared long k =
      rw (kept refl, passes b k (sym is)) refl
  noted flags new b rest false is kept cleared long k =
      let within : b.label < length flags = subst (λ n. b.label < n) (sym long) (lends_false b (sym is)) in
      rw (cleared refl within) (fails flags b (all_lend rows known k rest) (sym is) within k)

-- the next declaration
pub next : (all : List code.Bearing) (i : ℕ) (b : code.Bearing) → i < length all → b ≡ slice_index_or all i b
    → bearings (drop i all) ≡ record { function = b.function.now; label = b.label; line = b.line } ∷ bearings (drop (suc i) all)
next all i b within is = ap bearings (drop-cons all i b within ∙ ap (λ (x : code.Bearing). x ∷ drop (suc i) all) (sym is))
