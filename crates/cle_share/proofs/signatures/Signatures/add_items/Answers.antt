use Rattle.std.proofs.Common.{◌∙◌, arith}
use Rattle.cle_share.specs.Signatures.{noted_at, signatures_in}
use Rattle.cle_share.proofs.Firsts.{one_more, no_more}
use Rattle.cle_share.proofs.signatures.Signatures.add_items.Goals as goal

pub loop-item-preserved : goal.loop-item-preserved
loop-item-preserved c = λ q.
    one_more (signatures_in c.args.definitions) c.args.items.now c.loop-item.item-index c.item-item.result q (noted_at c.loop-item.self q) (noted_at c.add_item.new.self q)
    (omega arith) c.item-item.is (c.in_ok-add_item.ensures q) ∙ c.loop-item.invariant q

pub returns : goal.returns
returns c = λ q.
    no_more (signatures_in c.args.definitions) c.args.items.now c.loop-item.item-index q (noted_at c.loop-item.self q) (omega arith) ∙ c.loop-item.invariant q
