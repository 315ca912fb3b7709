use Rattle.cl_calls.proofs.Circles.{no_marks}
use Rattle.cl_calls.proofs.cycles.Pairs.new.Goals as goal

pub returns-clause-seen : goal.returns-clause-seen
returns-clause-seen c = no_marks 1024 c.new.result.items c.in_ok-seen.seen.items (c.in_ok-seen.ensures.items_if_clones_equal (λ y e. e))
