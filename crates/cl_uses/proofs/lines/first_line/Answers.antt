use Rattle.std.proofs.Common.{◌<◌, ◌≤◌, length, arith}
use Rattle.cl_uses.proofs.Steps.{line_none, line_some}
use Rattle.cl_uses.proofs.lines.first_line.Goals as goal

pub returns-in-empty : goal.returns-in-empty
returns-in-empty c =
    let h : length c.as_slice.result.now < 1 = omega arith in
    line_none c.args.d.now c.as_slice.result.now c.as_slice.ensures h

pub returns-in-len1-up : goal.returns-in-len1-up
returns-in-len1-up c =
    let h : 1 ≤ length c.as_slice.result.now = omega arith in
    line_some c.args.d.now c.as_slice.result.now c.first-item.result c.as_slice.ensures h c.first-item.is
