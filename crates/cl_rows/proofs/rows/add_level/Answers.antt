use Rattle.std.proofs.Common.{◌<◌, ◌≤◌, arith}
use Rattle.cl_calls.specs.Calls.{level_at}
use Rattle.cl_rows.proofs.Called.{small_level}
use Rattle.cl_rows.proofs.Ordered.{from_next}
use Rattle.cl_rows.proofs.rows.add_level.Goals as goal

pub returns : goal.returns
returns c =
    let past : 32 ≤ c.loop-to.to = omega arith in
    from_next c.args.table.now.sources.typed.now c.args.table.now.sources.labels.now c.args.table.now.levels.now c.args.table.now.crossings.now c.args.from c.loop-to.to
    c.loop-to.rows (λ d h. let l : level_at c.args.table.now.levels.now d.callee < 32 = small_level c.args.table.now.levels.now d.callee c.requires.table.levels in omega (arith, l, past)) c.loop-to.invariant
