use Rattle.std.proofs.Common.{Bool, sym, ap, ◌∙◌, arith}
use Rattle.cl_typing.specs.Rules.{unless}
use Rattle.cl_regions.proofs.Steps.{handed}
use Rattle.cle_items.specs.Numbered.{kind_at, wrong_kinds}
use Rattle.cle_items.proofs.Steps.{fails, holds, none_left}
use Rattle.cle_items.proofs.kinds.wrong_kind.Goals as goal

pub returns-in_err-unless : goal.returns-in_err-unless
unfolding wrong_kinds
returns-in_err-unless c =
    handed c.from_residual.result _ _ c.from_residual.ensures.1
    (fails (kind_at c.args.labels.now) c.args.all.now c.loop-item.item-index c.item-item.result c.suits.result c.in_err-unless.field-0.0 _ (omega arith) c.item-item.is
    (ap (λ (b : Bool). unless b c.item-item.result.line) (sym c.suits.ensures)) c.in_err-unless.ensures c.loop-item.invariant)

pub loop-item-preserved : goal.loop-item-preserved
unfolding wrong_kinds
loop-item-preserved c =
    holds (kind_at c.args.labels.now) c.args.all.now c.loop-item.item-index c.item-item.result _ (omega arith) c.item-item.is
    (ap (λ (b : Bool). unless b c.item-item.result.line) (sym c.suits.ensures) ∙ c.in_ok-unless.ensures) c.loop-item.invariant

pub returns : goal.returns
unfolding wrong_kinds
returns c = sym c.loop-item.invariant ∙ none_left (kind_at c.args.labels.now) c.args.all.now c.loop-item.item-index (omega arith)
