use Rattle.std.proofs.Common.{sym, ap, ◌∙◌, subst}
use Rattle.cl_members.specs.Tags.{tags_in, IsTagged}
use Rattle.cl_members.proofs.Structs.{tagged_none, tags_none}
use Rattle.cl_members.proofs.tags.Tags.new.Goals as goal

pub invariant_of-result : goal.invariant_of-result
invariant_of-result c =
    subst (λ xs. IsTagged xs c.new-2.result) (sym c.new.ensures.items) (tagged_none c.new-2.result c.new-2.ensures)

pub returns : goal.returns
returns c = ap tags_in c.new.ensures.items ∙ tags_none
