use Rattle.cl_rows.proofs.Ordered.{first_rows}
use Rattle.cl_rows.proofs.rows.rows_of.Goals as goal

pub loop-from-init : goal.loop-from-init
loop-from-init c =
    first_rows c.args.table.now.sources.typed.now c.args.table.now.sources.labels.now c.args.table.now.levels.now c.args.table.now.crossings.now _ c.new-rows.ensures
