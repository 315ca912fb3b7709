use Rattle.std.proofs.Common.{◌++◌, ap, subst, ◌∙◌, List, Bool}
use Rattle.std.specs.List.{flat_map}
use Rattle.cl_tree.specs.declared.tree.Item.{Item}
use Rattle.cl_labelling.specs.Fits.{defined_by, declared_by}
use Rattle.cl_scope.specs.Finds.{Finds}
use Rattle.cle_share.specs.Bearings.{bearings, flag_at, unshared_by}
use Rattle.cle_share.specs.Signatures.{known, noted_at}
use Rattle.cle_share.proofs.Bearers.{rule_here}
use Rattle.cle_share.proofs.share.not_shareable.Goals as goal

pub returns : goal.returns
returns c =
    subst (λ ls. Finds c.look.result ls)
    (ap (λ (flags : List Bool). unshared_by (flag_at flags) c.args.labels.now 0 c.args.labels.now) c.as_slice-2.ensures.value
    ∙ rule_here c.args.program.now c.args.labels.now (flag_at c.in_ok-lending.lending.items) (noted_at c.in_ok-signatures.signatures) (bearings c.args.all.now) c.requires.labels c.requires.bearings
    (λ q. c.in_ok-signatures.ensures q ∙ ap (λ (items : List Item). known (flat_map defined_by items ++ flat_map declared_by items) q) c.as_slice.ensures)
    c.in_ok-lending.ensures)
    c.look.ensures
