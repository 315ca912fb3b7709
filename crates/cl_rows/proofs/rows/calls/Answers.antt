use Rattle.cl_rows.proofs.Called.{called_there}
use Rattle.cl_rows.proofs.rows.calls.Goals as goal

pub returns : goal.returns
returns c =
    called_there c.args.table.now c.requires.table c.args.from c.args.to c.args.f c.both.result c.is_at.result c.mark_at.result c.requires.from c.both.ensures c.is_at.ensures c.mark_at.ensures
