use Rattle.std.proofs.Common.{◌↔◌, ap, subst, ◌∙◌, IsTrue}
use Rattle.cl_levels.specs.Crossings.{array_roots}
use Rattle.cl_loans.specs.Loans.{HasAlias}
use Rattle.cl_loans.proofs.aliases.clashes.Goals as goal

pub returns : goal.returns
returns c =
    subst (λ vs. IsTrue c.has_alias.result ↔ HasAlias c.args.searched.now.named.now c.args.callee vs)
    (c.as_slice.ensures.value ∙ c.in_ok-lent.ensures ∙ ap (λ ds. array_roots ds c.args.roots.now) c.params_at.ensures) c.has_alias.ensures
