use Rattle.std.proofs.Common.{List, ap, ◌∙◌}
use Rattle.cl_tree.specs.Words.{Word}
use Rattle.cle_names.specs.Walked.{place_of}
use Rattle.cle_names.proofs.labels.Labels.place.Goals as goal

pub returns : goal.returns
returns c =
    c.get.ensures ∙ c.self.invariant c.args.name.now
    ∙ ap (λ (ws : List Word). place_of ws c.args.name.now) c.self.view_is
