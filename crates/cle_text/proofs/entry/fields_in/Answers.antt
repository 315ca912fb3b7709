use Rattle.std.proofs.Common.{◌≡◌, map, IfOk, subst}
use Rattle.serde_json.specs.View.{view}
use Rattle.cl_labelling.specs.Text.{redact_field}
use Rattle.cle_text.proofs.Arrays.{each_some}
use Rattle.cle_text.proofs.entry.fields_in.Goals as goal

pub returns-in-Some : goal.returns-in-Some
returns-in-Some c =
    subst (λ x. IfOk c.each_field.result (λ o. o ≡ x)) (each_some redact_field (view c.args.value.now) (map view c.in-Some.parts.now) c.in-Some.ensures) c.each_field.ensures
