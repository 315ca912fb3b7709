use Rattle.std.proofs.Common.{◌+◌, length, arith}
use Rattle.cl_parse_stmt.proofs.AllItems.{item_only}
use Rattle.cl_parse_stmt.proofs.whole.boxed_item.Goals as goal

pub returns-clause-only : goal.returns-clause-only
returns-clause-only c = λ i h. item_only (length c.args.terminals.now + 1) c.args.terminals.now i c.whole_item.result c.whole_item.ensures (omega arith) h
