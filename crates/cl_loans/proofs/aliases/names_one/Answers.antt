use Rattle.std.proofs.Common.{slice_index_or, sym, refl, ◌∙◌, arith}
use Rattle.std.proofs.lemmas.Bool.{false≢true}
use Rattle.cl_loans.specs.Loans.{NamesIt}
use Rattle.cl_levels.specs.declared.uses.Variable.TheVariants.{Static}
use Rattle.cl_loans.proofs.Lists.{no_default, stands, any_next, any_none}
use Rattle.cl_loans.proofs.aliases.names_one.Goals as goal

pub returns-then-names_it : goal.returns-then-names_it
returns-then-names_it c = (
  λ t. ((slice_index_or c.args.lent.now c.loop-variable.variable-index (Static 0)), (stands c.args.lent.now c.loop-variable.variable-index (slice_index_or c.args.lent.now c.loop-variable.variable-index (Static 0)) (omega arith) (no_default c.args.lent.now c.loop-variable.variable-index (Static 0) (omega arith)), c.names_it.ensures.0 c.if-names_it.true)),
  λ h. refl,
)

pub loop-variable-preserved : goal.loop-variable-preserved
loop-variable-preserved c = λ h.
    any_next (NamesIt c.args.named.now c.args.f) c.args.lent.now c.loop-variable.variable-index (slice_index_or c.args.lent.now c.loop-variable.variable-index (Static 0)) (omega arith) (no_default c.args.lent.now c.loop-variable.variable-index (Static 0) (omega arith))
    (λ n. false≢true (sym c.if-names_it.false ∙ c.names_it.ensures.1 n)) (c.loop-variable.invariant h)

pub returns : goal.returns
returns c = (
  λ t. absurd (false≢true t),
  λ h. absurd (any_none (NamesIt c.args.named.now c.args.f) c.args.lent.now c.loop-variable.variable-index (omega arith) (c.loop-variable.invariant h)),
)
