use Rattle.cl_tree.proofs.Ranges.{quotient_and_remainder as split}
use Rattle.cl_tree.proofs.arithmetic.quotient_and_remainder.Goals as goal

pub returns : goal.returns
returns c = split c.args.kind c.args.a c.args.b
