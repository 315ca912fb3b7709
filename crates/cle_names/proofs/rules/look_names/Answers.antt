use Rattle.std.proofs.Common.{List}
use Rattle.cl_tree.specs.Words.{Word}
use Rattle.cle_names.proofs.Walks.{twice_none, twice_stop, twice_labels}
use Rattle.cle_names.proofs.rules.look_names.Goals as goal

pub returns-in-Ok-clause-places : goal.returns-in-Ok-clause-places
returns-in-Ok-clause-places c = twice_none c.args.all.now c.new-labels.result c.new-labels.ensures c.in-Ok.ensures.places

pub returns-in-Ok-clause-labels : goal.returns-in-Ok-clause-labels
returns-in-Ok-clause-labels c =
    twice_labels c.args.all.now c.new-labels.result c.look_all_names.new.labels c.new-labels.ensures c.in-Ok.ensures.labels

pub returns-clause-places : goal.returns-clause-places
returns-clause-places c =
    twice_stop (List Word) c.in-Err.stop c.args.all.now c.new-labels.result c.new-labels.ensures c.in-Err.ensures.places
