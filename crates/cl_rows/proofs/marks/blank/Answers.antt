use Rattle.cl_rows.proofs.Marked.{none_marked}
use Rattle.cl_rows.proofs.marks.blank.Goals as goal

pub returns : goal.returns
returns c = none_marked c.args.count c.in_ok-marks.marks.items (c.in_ok-marks.ensures.items_if_clones_equal (λ y e. e))
