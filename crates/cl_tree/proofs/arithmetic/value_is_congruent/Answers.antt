use Rattle.std.proofs.Common.{sym}
use Rattle.cl_tree.proofs.Ranges.{value_differs, value_only}
use Rattle.cl_tree.proofs.arithmetic.value_is_congruent.Goals as goal

pub returns-clause-congruent : goal.returns-clause-congruent
returns-clause-congruent c = value_differs c.args.kind c.args.n

pub returns-clause-only : goal.returns-clause-only
returns-clause-only c m k h e = sym (value_only c.args.kind c.args.n m k h e)
