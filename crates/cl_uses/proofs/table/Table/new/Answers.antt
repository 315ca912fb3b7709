use Rattle.std.proofs.Common.{List, sym, ap, ◌∙◌, subst}
use Rattle.cl_uses.specs.declared.table.Slot.{Slot}
use Rattle.cl_uses.specs.Table.{known_in, IsKept}
use Rattle.cl_uses.proofs.Kept.{kept_none, none_known}
use Rattle.cl_uses.proofs.table.Table.new.Goals as goal

pub invariant_of-result : goal.invariant_of-result
invariant_of-result c = subst (λ (xs : List Slot). IsKept xs c.new-2.result) (sym c.new.ensures.items)
    (kept_none c.new-2.result c.new-2.ensures)

pub returns : goal.returns
returns c = ap known_in c.new.ensures.items ∙ none_known
