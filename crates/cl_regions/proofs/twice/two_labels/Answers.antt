use Rattle.std.proofs.Common.{◌<◌, length, arith}
use Rattle.cl_regions.proofs.Steps.{handed}
use Rattle.cl_regions.proofs.Ones.{one_start, one_next, one_fails, one_end}
use Rattle.cl_regions.proofs.twice.two_labels.Goals as goal

pub loop-m-init : goal.loop-m-init
loop-m-init c = λ all e. one_start c.new-chosen.result all c.new-chosen.ensures

pub loop-m-preserved : goal.loop-m-preserved
loop-m-preserved c = λ all e.
    let h : c.loop-m.m-index < length c.args.marks.now = omega arith in
    one_next c.loop-m.chosen c.add.new.self all c.args.marks.now c.m-item.result c.loop-m.m-index c.is_one.result
    (c.loop-m.invariant all e) e h c.m-item.is c.is_one.ensures c.in_ok-unless.ensures c.in_ok-add.ensures

pub returns : goal.returns
returns c = λ all e.
    one_end c.loop-m.chosen all c.args.marks.now c.loop-m.m-index (c.loop-m.invariant all e) e (omega arith)

pub returns-in_err-unless : goal.returns-in_err-unless
returns-in_err-unless c = λ all e.
    let h : c.loop-m.m-index < length c.args.marks.now = omega arith in
    handed c.from_residual.result _ _ c.from_residual.ensures.1
    (one_fails c.loop-m.chosen all c.args.marks.now c.m-item.result c.loop-m.m-index c.is_one.result
    c.in_err-unless.field-0.0 (c.loop-m.invariant all e) e h c.m-item.is c.is_one.ensures c.in_err-unless.ensures)
