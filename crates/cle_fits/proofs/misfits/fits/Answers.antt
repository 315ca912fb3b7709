use Rattle.std.proofs.Common.{◌≡◌, Bool, List, IfOk, ap, subst, ◌∙◌}
use Rattle.cl_tree.specs.declared.tree.Item.{Item}
use Rattle.cl_mean.specs.Shape.{structs_of}
use Rattle.cl_labelling.specs.Fits.{label_fits}
use Rattle.cle_fits.specs.Leaves.{nameless}
use Rattle.cle_fits.proofs.Bearing.{no_label, no_signature, both_there}
use Rattle.cle_fits.proofs.misfits.fits.Goals as goal

pub returns-in_default : goal.returns-in_default
returns-in_default c = no_label c.args.program.now c.args.labels.now c.args.bearing.now.function.now c.args.bearing.now.label c.in_default.ensures

pub returns-in_default-get : goal.returns-in_default-get
returns-in_default-get c =
    no_signature c.args.program.now c.args.labels.now c.args.bearing.now.function.now c.args.bearing.now.label (c.in_default-get.ensures ∙ c.requires c.args.bearing.now.function.now)

pub returns : goal.returns
returns c =
    subst (λ (x : Bool). IfOk c.label_fits.result (λ b. b ≡ x))
    (ap (λ (items : List Item). label_fits (structs_of items) (nameless c.in-Some-get.signature.result.now c.in-Some-get.signature.params.now) c.in-Some.label.now) c.as_slice.ensures
    ∙ both_there c.args.program.now c.args.labels.now c.args.bearing.now.function.now c.args.bearing.now.label c.in-Some.label.now _ c.in-Some.ensures (c.in-Some-get.ensures ∙ c.requires c.args.bearing.now.function.now))
    c.label_fits.ensures
