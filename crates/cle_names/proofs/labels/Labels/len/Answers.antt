use Rattle.std.proofs.Common.{Bor, length, sym, ap, ◌∙◌}
use Rattle.std.proofs.lemmas.List.{length-map}
use Rattle.cl_tree.specs.Words.{Word}
use Rattle.cle_names.proofs.labels.Labels.len.Goals as goal

pub returns : goal.returns
returns c =
    ap length c.as_slice.ensures.value
    ∙ sym (length-map c.self.inside.names.items (λ (n : Bor Word). n.now)) ∙ ap length c.self.view_is
