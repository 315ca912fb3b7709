use Rattle.cl_rows.specs.Table.{RowsOf}
use Rattle.cl_rows.proofs.rows.add_level.Given as goal

abbrev pub invariant-loop-to : goal.invariant-loop-to
invariant-loop-to l = RowsOf l.table l.from l.to 0 l.rows
