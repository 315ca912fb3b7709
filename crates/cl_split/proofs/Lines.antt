-- What the answer of `crossings` says.
use Rattle.std.proofs.Common.{◌≡◌, ◌⊎◌, inl, inr, ℕ, List, refl, sym, ap, subst, ◌∙◌}
use Rattle.std.proofs.lemmas.Option.{same_Some}
use Rattle.cl_levels.specs.declared.uses.Call.{Call}
use Rattle.cl_levels.specs.Crossings.{Levelled, Loan, crossing_rules, cycle_of_levels, aliased, no_entry, wrong_direction, too_wide}
use Rattle.cl_levels.specs.Levels.{Annotated}
use Rattle.cl_levels.proofs.Answered.{one_first, HasOneLine, AllHaveOneLine}
use Rattle.cl_split.specs.Answer.{CrossingsFail}
use Rattle.cl_split.proofs.Answered.{listed_one_line}

cycle_one_line : (l : Levelled) → HasOneLine (cycle_of_levels l)
cycle_one_line l position line other f g =
    let same : f.0 ≡ g.0 = same_Some f.0 g.0 (sym f.1.0 ∙ g.1.0) in
    sym f.1.1.0 ∙ ap (λ (c : Call). c.line) same ∙ g.1.1.0

aliased_one_line : (a : Annotated) → HasOneLine (aliased a)
aliased_one_line a position line other f g =
    let same : f.0 ≡ g.0 = same_Some f.0 g.0 (sym f.1.0 ∙ g.1.0) in
    sym f.1.1.0 ∙ ap (λ (x : Loan). x.line) same ∙ g.1.1.0

lines_of_rules : (l : Levelled) → AllHaveOneLine (crossing_rules l)
lines_of_rules l =
    (listed_one_line (no_entry l), (listed_one_line (wrong_direction l), (cycle_one_line l, (aliased_one_line l.annotated, (listed_one_line (too_wide l), tt)))))

pub one_failure : (l : Levelled) (rule line r m : ℕ) → CrossingsFail l rule line → CrossingsFail l r m → (rule ≡ r) × (line ≡ m)
one_failure l rule line r m f g = one_first (crossing_rules l) rule line r m (lines_of_rules l) f g
