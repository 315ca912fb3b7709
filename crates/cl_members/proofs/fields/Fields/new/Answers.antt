use Rattle.std.proofs.Common.{sym, ap, ◌∙◌, subst}
use Rattle.cl_members.specs.Fields.{fields_in, IsIndexed}
use Rattle.cl_members.proofs.Members.{indexed_none, fields_none}
use Rattle.cl_members.proofs.fields.Fields.new.Goals as goal

pub invariant_of-result : goal.invariant_of-result
invariant_of-result c =
    subst (λ xs. IsIndexed xs c.new-2.result) (sym c.new.ensures.items) (indexed_none c.new-2.result c.new-2.ensures)

pub returns : goal.returns
returns c = ap fields_in c.new.ensures.items ∙ fields_none
