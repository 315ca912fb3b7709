use Rattle.std.proofs.Common.{ap, ◌∙◌, arith, Option, ℕ}
use Rattle.cle_items.specs.Numbered.{function_label, noted_at, numbered, or_first}
use Rattle.cle_items.proofs.Labels.{chosen_next, chosen_end}
use Rattle.cle_items.proofs.functions.Chosen.of.Goals as goal

pub loop-item-init : goal.loop-item-init
loop-item-init c = λ q. ap (λ (a : Option ℕ). or_first a (function_label (numbered c.args.all.now) q)) (c.new-chosen.ensures q)

pub loop-item-preserved : goal.loop-item-preserved
loop-item-preserved c = λ q.
    chosen_next c.args.all.now c.loop-item.item-index c.item-item.result q (noted_at c.loop-item.chosen q) (noted_at c.add.new.self q) (omega arith) c.item-item.is (c.in_ok-add.ensures q)
    ∙ c.loop-item.invariant q

pub returns : goal.returns
returns c = λ q. chosen_end c.args.all.now c.loop-item.item-index q (noted_at c.loop-item.chosen q) (omega arith) ∙ c.loop-item.invariant q
