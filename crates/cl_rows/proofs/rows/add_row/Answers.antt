use Rattle.cl_rows.proofs.Called.{called_ready}
use Rattle.cl_rows.proofs.Ordered.{one_row}
use Rattle.cl_rows.proofs.rows.add_row.Goals as goal

pub row_of-requires-clause-ready : goal.row_of-requires-clause-ready
row_of-requires-clause-ready c = called_ready c.args.table.now c.requires.table c.args.from c.args.to c.args.f c.requires.calls

pub returns : goal.returns
returns c =
    one_row c.args.table.now.sources.typed.now c.args.table.now.sources.labels.now c.args.table.now.levels.now c.args.table.now.crossings.now c.args.from c.args.to c.args.f
    c.args.rows.now _ c.in_ok-row.row c.requires.calls.0 c.requires.rows c.in_ok-row.ensures c.requires.calls.1.0 c.requires.calls.1.1.0 c.requires.calls.1.1.1.0 c.requires.calls.1.1.1.1 c.in_ok-push.ensures.ok
