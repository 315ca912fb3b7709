use Rattle.std.proofs.Common.{sym, ap, ◌∙◌, subst}
use Rattle.cl_large.specs.Known.{sizes_in, IsSized}
use Rattle.cl_large.proofs.Known.{sized_none, sizes_none}
use Rattle.cl_large.proofs.sizes.Sizes.new.Goals as goal

pub invariant_of-result : goal.invariant_of-result
invariant_of-result c =
    subst (λ xs. IsSized xs c.new-2.result) (sym c.new.ensures.items) (sized_none c.new-2.result c.new-2.ensures)

pub returns : goal.returns
returns c = ap sizes_in c.new.ensures.items ∙ sizes_none
