use Rattle.std.proofs.Common.{rules, ◌≡◌, ◌&&◌, List, sym, ap, ◌∙◌}
use Rattle.std.proofs.lemmas.Int.{to_z-of_z}
use Rattle.std.specs.List.{list_all, list_any}
use Rattle.cl_mean.specs.Shape.{structs_of}
use Rattle.rpc_codec.specs.declared.leaves.Leaf.{Leaf}
use Rattle.cle_fits.specs.Leaves.{leaf_fits}
use Rattle.cle_fits.proofs.Chosen.{field_is}
use Rattle.cle_fits.proofs.fields.field_fits.Goals as goal

pub returns : goal.returns
returns c =
    let by : c.chosen_fit.result ≡ (list_any (λ l. l.chosen) c.deref.result.now && list_all (leaf_fits c.args.field.now.with) c.deref.result.now) = search (rules, to_z-of_z) in
    by
    ∙ ap (λ (ls : List Leaf). list_any (λ l. l.chosen) ls && list_all (leaf_fits c.args.field.now.with) ls) c.deref.ensures.value
    ∙ field_is (structs_of c.args.items.now) c.args.signature.result.now c.args.signature.params.now c.args.field.now c.in_ok-leaves.leaves.items
    (rw (sym c.as_slice-path.ensures) c.in_ok-leaves.ensures)
