use Rattle.cl_rows.specs.Table.{RowsOf}
use Rattle.cl_rows.proofs.rows.add_pair.Given as goal

abbrev pub invariant-loop-f : goal.invariant-loop-f
invariant-loop-f l = RowsOf l.table l.from l.to l.f l.rows
