use Rattle.std.proofs.Common.{◌<◌, ◌≤◌, arith}
use Rattle.cl_rows.proofs.Called.{callee_below}
use Rattle.cl_rows.proofs.Ordered.{to_next}
use Rattle.cl_rows.proofs.rows.add_pair.Goals as goal

pub returns : goal.returns
returns c =
    let past : c.args.table.now.count ≤ c.loop-f.f = omega arith in
    to_next c.args.table.now.sources.typed.now c.args.table.now.sources.labels.now c.args.table.now.levels.now c.args.table.now.crossings.now c.args.from c.args.to c.loop-f.f
    c.loop-f.rows (λ d h. let l : d.callee < c.args.table.now.count = callee_below c.args.table.now c.requires.table d h in omega (arith, l, past)) c.loop-f.invariant
