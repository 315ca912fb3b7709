-- The search for a label whose taints aren't shareable, label by label.
use Rattle.std.proofs.Common.{◌≡◌, ℕ, suc, ◌+◌, ◌<◌, ◌≤◌, Bool, List, [], ◌∷◌, ◌++◌, drop, drop-cons, length, slice_index_or, refl, sym, ap, subst, ◌∙◌, add-one, Err}
use Rattle.std.proofs.lemmas.List.{drop_all}
use Rattle.cl_mean.specs.declared.labels.LabelFact.{LabelFact}
use Rattle.cl_typing.specs.Rules.{Lines, unless}
use Rattle.cl_scope.specs.Finds.{Finds}
use Rattle.cl_scope.specs.declared.stop.Stop.{Stop}
use Rattle.cl_regions.proofs.Steps.{front}
use Rattle.cle_share.specs.Bearings.{shared_by, unshared_by}

module _ (labels : List LabelFact) (lending : ℕ → Bool) where
  here : (i : ℕ) (l : LabelFact) → i < length labels → l ≡ slice_index_or labels i l
      → unshared_by lending labels i (drop i labels) ≡ unless (shared_by labels l (lending i)) l.line ++ unshared_by lending labels (suc i) (drop (suc i) labels)
  unfolding unshared_by
  here i l within is = ap (unshared_by lending labels i) (drop-cons labels i l within ∙ ap (λ (x : LabelFact). x ∷ drop (suc i) labels) (sym is))

  pub holds : (i : ℕ) (l : LabelFact) (shared : Bool) (whole : Lines) → i < length labels → l ≡ slice_index_or labels i l
      → shared ≡ shared_by labels l (lending i) → unless shared l.line ≡ [] → unshared_by lending labels i (drop i labels) ≡ whole
      → unshared_by lending labels (i + 1) (drop (i + 1) labels) ≡ whole
  holds i l shared whole within is e fine rest =
      rw (add-one i) (ap (λ (ls : Lines). ls ++ unshared_by lending labels (suc i) (drop (suc i) labels)) (sym fine ∙ ap (λ (b : Bool). unless b l.line) e) ∙ sym (here i l within is) ∙ rest)

  pub fails : (i : ℕ) (l : LabelFact) (shared : Bool) (stop : Stop) (whole : Lines) → i < length labels → l ≡ slice_index_or labels i l
      → shared ≡ shared_by labels l (lending i) → Finds (Err stop) (unless shared l.line) → unshared_by lending labels i (drop i labels) ≡ whole
      → Finds (Err stop) whole
  fails i l shared stop whole within is e found rest =
      subst (λ (ls : Lines). Finds (Err stop) ls) (sym (here i l within is) ∙ rest)
      (front stop (shared_by labels l (lending i)) l.line l.line (unshared_by lending labels (suc i) (drop (suc i) labels)) refl
      (subst (λ (b : Bool). Finds (Err stop) (unless b l.line)) e found))

  pub ends : (i : ℕ) (whole : Lines) → length labels ≤ i → unshared_by lending labels i (drop i labels) ≡ whole → whole ≡ []
  unfolding unshared_by
  ends i whole past rest = sym rest ∙ ap (unshared_by lending labels i) (drop_all i labels past)
