use Rattle.std.proofs.Common.{◌++◌, List, Option, ℕ, sym, ap, ◌∙◌, arith}
use Rattle.std.proofs.lemmas.List.{append-nil}
use Rattle.cle_items.specs.Numbered.{labels_by, object_labels}
use Rattle.cle_items.proofs.Steps.{none_left, one_more}
use Rattle.cle_items.proofs.objects.on_objects.Goals as goal

pub loop-item-preserved : goal.loop-item-preserved
unfolding object_labels
loop-item-preserved c =
    one_more (λ n. labels_by n.subject n.label) c.args.all.now c.loop-item.item-index c.item-item.result c.loop-item.found c.push.new.found _
    (omega arith) c.item-item.is c.in_ok-push.ensures c.loop-item.invariant

pub returns : goal.returns
unfolding object_labels
returns c =
    sym (append-nil c.loop-item.found)
    ∙ ap (λ (xs : List (Option ℕ)). c.loop-item.found ++ xs) (sym (none_left (λ n. labels_by n.subject n.label) c.args.all.now c.loop-item.item-index (omega arith)))
    ∙ c.loop-item.invariant
