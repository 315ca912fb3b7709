use Rattle.std.proofs.Common.{◌≡◌, rules, Some, None, slice_get}
use Rattle.guard_places.proofs.Signatures.{label_named, label_unnamed, label_lost}
use Rattle.guard_places.proofs.signature.label_of.Goals as goal

pub returns-in-Some-Some : goal.returns-in-Some-Some
returns-in-Some-Some c =
    let named : slice_get c.args.checked.now.labels.on_functions c.args.function ≡ Some (Some c.in-Some-Some.label) = search rules in
    rw (label_named c.args.checked.now c.args.function c.in-Some-Some.label named) (search rules)

pub returns-in-Some-None : goal.returns-in-Some-None
returns-in-Some-None c =
    let unnamed : slice_get c.args.checked.now.labels.on_functions c.args.function ≡ Some None = search rules in
    label_unnamed c.args.checked.now c.args.function unnamed

pub returns-in-None : goal.returns-in-None
returns-in-None c =
    let lost : slice_get c.args.checked.now.labels.on_functions c.args.function ≡ None = search rules in
    label_lost c.args.checked.now c.args.function lost
