use Rattle.std.proofs.Common.{slice_index_or, sym, subst, refl, ◌∙◌, arith}
use Rattle.std.specs.List.{Contains}
use Rattle.std.proofs.lemmas.Bool.{false≢true}
use Rattle.cl_levels.specs.declared.uses.Variable.TheVariants.{Static}
use Rattle.cl_loans.proofs.Lists.{no_default, found_twice, next_twice, none_twice}
use Rattle.cl_loans.proofs.twice.is_twice.Goals as goal

pub returns-then-has : goal.returns-then-has
returns-then-has c = (
  λ t. found_twice c.args.variables.now c.loop-i.i (slice_index_or c.args.variables.now c.loop-i.i (Static 0)) (omega arith) (no_default c.args.variables.now c.loop-i.i (Static 0) (omega arith))
      (subst (λ xs. Contains xs (slice_index_or c.args.variables.now c.loop-i.i (Static 0))) c.behind.ensures (c.has.ensures.0 c.if-has.true)),
  λ h. refl,
)

pub loop-i-preserved : goal.loop-i-preserved
loop-i-preserved c = λ h.
    next_twice c.args.variables.now c.loop-i.i (slice_index_or c.args.variables.now c.loop-i.i (Static 0)) (omega arith) (no_default c.args.variables.now c.loop-i.i (Static 0) (omega arith))
    (λ d. false≢true (sym c.if-has.false ∙ c.has.ensures.1 (subst (λ xs. Contains xs (slice_index_or c.args.variables.now c.loop-i.i (Static 0))) (sym c.behind.ensures) d))) (c.loop-i.invariant h)

pub returns : goal.returns
returns c = (λ t. absurd (false≢true t), λ h. absurd (none_twice c.args.variables.now c.loop-i.i (omega arith) (c.loop-i.invariant h)))
