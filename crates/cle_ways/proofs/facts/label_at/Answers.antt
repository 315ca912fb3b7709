use Rattle.std.proofs.Common.{rules}
use Rattle.cle_ways.proofs.Labels.{label_is}
use Rattle.cle_ways.proofs.facts.label_at.Goals as goal

pub returns : goal.returns
returns c = rw (label_is c.args.labels.now c.args.k) (search rules)
