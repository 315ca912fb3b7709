use Rattle.std.proofs.Common.{inl, inr, ⊎_elim, sym, refl, ◌∙◌}
use Rattle.std.proofs.lemmas.Bool.{false≢true}
use Rattle.cl_levels.specs.Crossings.{LentTwice}
use Rattle.cl_loans.specs.Loans.{NamesOne}
use Rattle.cl_loans.proofs.aliases.has_alias.Goals as goal

pub returns-then-is_twice : goal.returns-then-is_twice
returns-then-is_twice c = (λ t. inl (c.is_twice.ensures.0 c.if-is_twice.true), λ h. refl)

pub returns : goal.returns
returns c = (
  λ t. inr (c.names_one.ensures.0 t),
  λ h. ⊎_elim (λ (d : LentTwice c.args.lent.now). absurd (false≢true (sym c.if-is_twice.false ∙ c.is_twice.ensures.1 d)))
      (λ (n : NamesOne c.args.named.now c.args.f c.args.lent.now). c.names_one.ensures.1 n) h,
)
