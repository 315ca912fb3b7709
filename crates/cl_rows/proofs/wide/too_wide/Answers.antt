use Rattle.std.proofs.Common.{ap, sym, subst, ◌∙◌}
use Rattle.cl_mean.specs.Shape.{structs_of}
use Rattle.cl_scope.specs.Finds.{Finds}
use Rattle.cl_rows.specs.Bytes.{structs_in}
use Rattle.cl_rows.specs.Wide.{wide_by}
use Rattle.cl_rows.proofs.Marked.{by_marks}
use Rattle.cl_rows.proofs.wide.too_wide.Goals as goal

pub returns : goal.returns
returns c =
    subst (Finds c.look.result)
    (ap (λ ms. wide_by (structs_in c.in_ok-bytes.bytes) c.args.typed.now ms 0 c.as_slice-2.result.now) c.as_slice.ensures.value
    ∙ ap (λ fs. wide_by (structs_in c.in_ok-bytes.bytes) c.args.typed.now c.in_ok-marks.marks.items 0 fs) c.as_slice-2.ensures
    ∙ by_marks (structs_in c.in_ok-bytes.bytes) c.args.typed.now c.args.crossings.now c.in_ok-marks.marks.items (ap structs_of c.in_ok-bytes.ensures.items) c.in_ok-marks.ensures)
    c.look.ensures
