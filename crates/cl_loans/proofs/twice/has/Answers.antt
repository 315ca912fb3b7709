use Rattle.std.proofs.Common.{slice_index_or, sym, subst, refl, ◌∙◌, arith}
use Rattle.std.specs.List.{Contains}
use Rattle.std.proofs.lemmas.Bool.{false≢true}
use Rattle.cl_levels.specs.declared.uses.Variable.TheVariants.{Static}
use Rattle.cl_loans.proofs.Lists.{no_default, is_same, other, stands, among_next, among_none}
use Rattle.cl_loans.proofs.twice.has.Goals as goal

pub returns-then-same : goal.returns-then-same
returns-then-same c = (
  λ t. subst (λ x. Contains c.args.variables.now x) (is_same (slice_index_or c.args.variables.now c.loop-other.other-index (Static 0)) c.args.variable.now (sym c.same.ensures ∙ c.if-same.true))
      (stands c.args.variables.now c.loop-other.other-index (slice_index_or c.args.variables.now c.loop-other.other-index (Static 0)) (omega arith) (no_default c.args.variables.now c.loop-other.other-index (Static 0) (omega arith))),
  λ h. refl,
)

pub loop-other-preserved : goal.loop-other-preserved
loop-other-preserved c = λ h.
    among_next c.args.variables.now c.loop-other.other-index (slice_index_or c.args.variables.now c.loop-other.other-index (Static 0)) c.args.variable.now (omega arith) (no_default c.args.variables.now c.loop-other.other-index (Static 0) (omega arith))
    (other (slice_index_or c.args.variables.now c.loop-other.other-index (Static 0)) c.args.variable.now (sym c.same.ensures ∙ c.if-same.false)) (c.loop-other.invariant h)

pub returns : goal.returns
returns c = (
  λ t. absurd (false≢true t),
  λ h. absurd (among_none c.args.variables.now c.loop-other.other-index c.args.variable.now (omega arith) (c.loop-other.invariant h)),
)
