use Rattle.cl_calls.specs.Calls.{levelled}
use Rattle.cl_rows.proofs.Unique.{answer_only}
use Rattle.cl_rows.proofs.rows.rows.Goals as goal

pub returns-clause-only : goal.returns-clause-only
returns-clause-only c = answer_only (levelled c.args.typed.now c.args.labels.now c.args.levels.now) c.made.result c.made.ensures
