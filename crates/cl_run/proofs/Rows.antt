-- The one row that a source has at most so far.
use Rattle.std.proofs.Common.{◌≡◌, ℕ, zero, suc, ◌≤◌, List, [], ◌∷◌, length, Some, refl, ap, subst, ◌∙◌, arith, slice_get, All}
use Rattle.cl_mean.specs.declared.checked.Checked.{Checked}
use Rattle.cl_mean.specs.declared.checked.GedlRow.{GedlRow}
use Rattle.cl_run.specs.Runs.{IsServed, IsServedRow}

-- what is known of a row and of its number
pub record TheRow (checked : Checked) (k : ℕ) (row : GedlRow) : Type 0 where
  pub rows : checked.gedl.rows ≡ row ∷ []
  pub number : k ≡ 0
  pub is : IsServedRow checked row

one : (checked : Checked) (rows : List GedlRow) (k : ℕ) (row : GedlRow) → checked.gedl.rows ≡ rows → length rows ≤ 1 → All (IsServedRow checked) rows → slice_get rows k ≡ Some row → TheRow checked k row
one checked [] k row is few all at = absurd (cc)
one checked (r ∷ []) zero row is few all at = record { rows = is ∙ ap (λ (x : GedlRow). x ∷ []) (cc); number = refl; is = subst (IsServedRow checked) (cc) (all 0 r (omega arith)) }
one checked (r ∷ []) (suc k) row is few all at = absurd (cc)
one checked (r ∷ s ∷ rs) k row is few all at = absurd (omega arith)

pub the_row : (checked : Checked) (k : ℕ) (row : GedlRow) → IsServed checked → slice_get checked.gedl.rows k ≡ Some row → TheRow checked k row
the_row checked k row served at = one checked checked.gedl.rows k row refl served.few served.rows at
