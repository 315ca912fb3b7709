-- Functions that are noted with a label that fits them.
use Rattle.std.proofs.Common.{◌≡◌, ℕ, Bool, true, false, List, [], slice_get, Option, Some, None, refl, sym, ap, subst, ◌∙◌, if◌then◌else◌, bytes_eq}
use Rattle.std.proofs.lemmas.Option.{none-some, same_Some}
use Rattle.std.specs.Map.{update}
use Rattle.cl_tree.specs.declared.tree.Program.{Program}
use Rattle.cl_tree.specs.Words.{Word}
use Rattle.cl_mean.specs.declared.labels.LabelFact.{LabelFact}
use Rattle.cl_labelling.specs.Fits.{subject_fits}
use Rattle.cl_labelling.specs.Regions.{function}
use Rattle.cl_scope.proofs.Places.{same_name}
use Rattle.cl_scope.specs.Table.{place_at}
use Rattle.cl_scope.specs.declared.latest.Latest.{Latest}
use Rattle.cl_typing.specs.Rules.{unless}
use Rattle.cle_fits.specs.Leaves.{AllFit}

module _ (program : Program) (labels : List LabelFact) where
  pub none_noted : (passed : Latest) → ((q : Word) → place_at passed q ≡ None) → AllFit program labels passed
  none_noted passed e name k is = absurd (none-some k (sym (e name) ∙ is))

  -- where the rule doesn't fail, the label fits
  pub fitting : (name : Word) (label line : ℕ) (t : Bool) → t ≡ subject_fits program labels (function name) (Some label) → unless t line ≡ []
      → subject_fits program labels (function name) (Some label) ≡ true
  fitting name label line true e f = sym e
  fitting name label line false e f = absurd (none-some line (sym (ap (λ ls. slice_get ls 0) f)))

  one_more : (name q : Word) (label k : ℕ) (old : Option ℕ) (t : Bool) → bytes_eq name q ≡ t
      → subject_fits program labels (function name) (Some label) ≡ true
      → (old ≡ Some k → subject_fits program labels (function q) (Some k) ≡ true)
      → (if t then Some label else old) ≡ Some k → subject_fits program labels (function q) (Some k) ≡ true
  one_more name q label k old true here fits rest e =
      subst (λ (n : Word). subject_fits program labels (function n) (Some k) ≡ true) (same_name name q here)
      (subst (λ (j : ℕ). subject_fits program labels (function name) (Some j) ≡ true) (same_Some label k e) fits)
  one_more name q label k old false here fits rest e = rest e

  pub noted_more : (old new : Latest) (name : Word) (label : ℕ) → AllFit program labels old
      → subject_fits program labels (function name) (Some label) ≡ true
      → ((q : Word) → place_at new q ≡ update bytes_eq (place_at old) name (Some label) q)
      → AllFit program labels new
  noted_more old new name label rest fits e q k is =
      one_more name q label k (place_at old q) (bytes_eq name q) refl fits (rest q k) (sym (e q) ∙ is)
