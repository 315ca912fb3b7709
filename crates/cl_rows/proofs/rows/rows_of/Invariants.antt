use Rattle.cl_rows.specs.Table.{RowsOf}
use Rattle.cl_rows.proofs.rows.rows_of.Given as goal

abbrev pub invariant-loop-from : goal.invariant-loop-from
invariant-loop-from l = RowsOf l.table l.from 0 0 l.rows
