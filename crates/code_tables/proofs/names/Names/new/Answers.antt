use Rattle.std.proofs.Common.{List, sym, ap, ◌∙◌, subst}
use Rattle.code_tables.specs.declared.names.Slot.{Slot}
use Rattle.code_tables.specs.Table.{known_in, IsKept}
use Rattle.code_tables.proofs.Kept.{kept_none, none_known}
use Rattle.code_tables.proofs.names.Names.new.Goals as goal

pub invariant_of-result : goal.invariant_of-result
invariant_of-result c = subst (λ (xs : List Slot). IsKept xs c.new-2.result) (sym c.new.ensures.items)
    (kept_none c.new-2.result c.new-2.ensures)

pub returns : goal.returns
returns c = ap known_in c.new.ensures.items ∙ none_known
