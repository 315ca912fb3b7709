use Rattle.std.proofs.Common.{sym, ap, subst}
use Rattle.cle_names.specs.Finding.{IsNumbered}
use Rattle.cle_names.proofs.Numbers.{numbered_none, words_of}
use Rattle.cle_names.proofs.labels.Labels.new.Goals as goal

pub invariant_of-result : goal.invariant_of-result
invariant_of-result c =
    subst (λ xs. IsNumbered (words_of xs) c.new-2.result) (sym c.new.ensures.items)
    (numbered_none c.new-2.result c.new-2.ensures)

pub returns : goal.returns
returns c = ap words_of c.new.ensures.items
