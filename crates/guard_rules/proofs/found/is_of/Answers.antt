use Rattle.guard_rules.proofs.found.is_of.Goals as goal

pub returns-then-same_sent : goal.returns-then-same_sent
returns-then-same_sent c = λ h. ((c.same_sent.ensures c.if-same_sent.true).0, (c.same_sent.ensures c.if-same_sent.true).1, c.same_path.ensures h)
