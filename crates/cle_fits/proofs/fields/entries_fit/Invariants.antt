use Rattle.std.proofs.Common.{◌≡◌, drop}
use Rattle.std.specs.List.{list_all}
use Rattle.cl_mean.specs.Shape.{structs_of}
use Rattle.cl_labelling.specs.Fits.{field_fits, redacted_by}
use Rattle.cle_fits.specs.Leaves.{nameless}
use Rattle.cle_fits.proofs.fields.entries_fit.Given as goal

abbrev pub invariant-loop-entry : goal.invariant-loop-entry
invariant-loop-entry l =
    list_all (λ e. list_all (field_fits (structs_of l.items) (nameless l.signature.result.now l.signature.params.now)) (redacted_by e)) (drop l.entry-index l.entries)
    ≡ list_all (λ e. list_all (field_fits (structs_of l.items) (nameless l.signature.result.now l.signature.params.now)) (redacted_by e)) l.entries
