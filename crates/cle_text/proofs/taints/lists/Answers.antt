use Rattle.std.proofs.Common.{◌≡◌, map, IfOk, subst}
use Rattle.serde_json.specs.View.{view}
use Rattle.cl_labelling.specs.Text.{names_in, lists_of_names}
use Rattle.cle_text.proofs.Arrays.{each_some}
use Rattle.cle_text.proofs.taints.lists.Goals as goal

pub returns-in-Some : goal.returns-in-Some
unfolding lists_of_names
returns-in-Some c =
    subst (λ x. IfOk c.each_list.result (λ o. o ≡ x)) (each_some names_in (view c.args.value.now) (map view c.in-Some.parts.now) c.in-Some.ensures) c.each_list.ensures
