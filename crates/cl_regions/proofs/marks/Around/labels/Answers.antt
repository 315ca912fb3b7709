use Rattle.std.proofs.Common.{◌∙◌}
use Rattle.cl_regions.proofs.Marking.{both_few}
use Rattle.cl_regions.proofs.marks.Around.labels.Goals as goal

pub returns : goal.returns
returns c = λ begun waiting h. c.both.ensures
    ∙ both_few waiting begun _ _ h.waits (c.labels.ensures begun h.holds)
