use Rattle.std.proofs.Common.{sym, ap, ◌∙◌, Option}
use Rattle.std.specs.List.{flat_map}
use Rattle.cl_labelling.specs.Fits.{defined_by, declared_by}
use Rattle.cle_share.specs.Signatures.{Parts, known, or_first}
use Rattle.cle_share.proofs.Firsts.{known_append}
use Rattle.cle_share.proofs.signatures.Signatures.of.Goals as goal

pub returns : goal.returns
returns c = λ q.
    c.in_ok-add_items-2.ensures q
    ∙ ap (λ (a : Option Parts). or_first a (known (flat_map declared_by c.args.items.now) q))
    (c.in_ok-add_items.ensures q ∙ ap (λ (a : Option Parts). or_first a (known (flat_map defined_by c.args.items.now) q)) (c.new-all.ensures q))
    ∙ sym (known_append (flat_map defined_by c.args.items.now) (flat_map declared_by c.args.items.now) q)
