use Rattle.std.proofs.Common.{◌++◌, List, sym, ap, ◌∙◌, arith}
use Rattle.std.proofs.lemmas.List.{append-nil}
use Rattle.cle_share.specs.Bearings.{Bearing, bearing_by, bearings}
use Rattle.cle_items.specs.Numbered.{bearers}
use Rattle.cle_items.proofs.Steps.{none_left, one_more}
use Rattle.cle_items.proofs.bearers.bearers.Goals as goal

pub loop-item-preserved : goal.loop-item-preserved
unfolding bearers
loop-item-preserved c =
    one_more (λ n. bearing_by n.line n.subject n.label) c.args.all.now c.loop-item.item-index c.item-item.result (bearings c.loop-item.found.items) (bearings c.add.new.found.items) _
    (omega arith) c.item-item.is c.in_ok-add.ensures c.loop-item.invariant

pub returns : goal.returns
unfolding bearers
returns c =
    sym (append-nil (bearings c.loop-item.found.items))
    ∙ ap (λ (xs : List Bearing). bearings c.loop-item.found.items ++ xs) (sym (none_left (λ n. bearing_by n.line n.subject n.label) c.args.all.now c.loop-item.item-index (omega arith)))
    ∙ c.loop-item.invariant
