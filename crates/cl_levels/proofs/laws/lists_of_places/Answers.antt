use Rattle.cl_levels.proofs.Lists.{all_hold, all_placed_hold, fails, placed_fails}
use Rattle.cl_levels.proofs.laws.lists_of_places.Goals as goal

pub returns-clause-hold : goal.returns-clause-hold
returns-clause-hold c rules = (all_hold rules, all_placed_hold rules)

pub returns-clause-fail : goal.returns-clause-fail
returns-clause-fail c rules number line = (fails rules number line, placed_fails rules number line)
