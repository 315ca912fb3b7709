use Rattle.cl_parse_stmt.proofs.AllItems.{item_or_none, item_one}
use Rattle.cl_parse_stmt.proofs.whole.one_item.Goals as goal

pub returns-clause-some : goal.returns-clause-some
returns-clause-some c = item_or_none

pub returns-clause-one : goal.returns-clause-one
returns-clause-one c = item_one
