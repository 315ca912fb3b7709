use Rattle.std.proofs.Common.{◌≡◌, map, IfOk, subst}
use Rattle.serde_json.specs.View.{view}
use Rattle.serde_json.specs.Find.{as_str}
use Rattle.cl_labelling.specs.Json.{texts}
use Rattle.cle_text.proofs.Arrays.{each_some}
use Rattle.cle_text.proofs.parts.texts.Goals as goal

pub returns-in-Some : goal.returns-in-Some
unfolding texts
returns-in-Some c =
    subst (λ x. IfOk c.each_text.result (λ o. o ≡ x)) (each_some as_str (view c.args.value.now) (map view c.in-Some.parts.now) c.in-Some.ensures) c.each_text.ensures
