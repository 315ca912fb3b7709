use Rattle.std.proofs.Common.{◌≡◌, drop}
use Rattle.std.specs.List.{list_all}
use Rattle.cl_mean.specs.Shape.{structs_of}
use Rattle.cl_labelling.specs.Fits.{field_fits}
use Rattle.cle_fits.specs.Leaves.{nameless}
use Rattle.cle_fits.proofs.fields.fields_fit.Given as goal

abbrev pub invariant-loop-field : goal.invariant-loop-field
invariant-loop-field l =
    list_all (field_fits (structs_of l.items) (nameless l.signature.result.now l.signature.params.now)) (drop l.field-index l.fields)
    ≡ list_all (field_fits (structs_of l.items) (nameless l.signature.result.now l.signature.params.now)) l.fields
