use Rattle.cl_rows.proofs.Caps.{narrow_is}
use Rattle.cl_rows.proofs.fill.narrow.Goals as goal

pub returns : goal.returns
returns c = narrow_is c.args.size
