use Rattle.hal_route.proofs.Takes.{turn_is_place}
use Rattle.hal_route.proofs.laws.journal_ends_with_the_frame.Goals as goal

pub returns-clause-turn : goal.returns-clause-turn
returns-clause-turn c = turn_is_place c.one_header.ensures
