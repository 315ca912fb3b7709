use Rattle.std.proofs.Common.{List}
use Rattle.cl_tree.specs.Words.{Word}
use Rattle.cle_names.proofs.Walks.{shape_none, shape_stop, shape_levels}
use Rattle.cle_names.specs.Walked.{definitions_in}
use Rattle.cle_names.proofs.Few.{few_of}
use Rattle.cle_names.proofs.rules.look_shapes.Goals as goal

pub returns-in-Ok-clause-places : goal.returns-in-Ok-clause-places
returns-in-Ok-clause-places c = shape_none c.args.all.now c.new-levels.result c.new-levels.ensures c.in-Ok.ensures.places

pub returns-in-Ok-clause-levels : goal.returns-in-Ok-clause-levels
returns-in-Ok-clause-levels c =
    shape_levels c.args.all.now c.new-levels.result c.look_all_shapes.new.levels c.new-levels.ensures c.in-Ok.ensures.levels

pub returns-in-Err-clause-places : goal.returns-in-Err-clause-places
returns-in-Err-clause-places c =
    shape_stop (List Word) c.in-Err.stop c.args.all.now c.new-levels.result c.new-levels.ensures c.in-Err.ensures.places

pub returns-in-Ok-clause-few : goal.returns-in-Ok-clause-few
returns-in-Ok-clause-few c =
    few_of (definitions_in c.args.all.now) c.look_all_shapes.new.levels
    (shape_none c.args.all.now c.new-levels.result c.new-levels.ensures c.in-Ok.ensures.places)
    (shape_levels c.args.all.now c.new-levels.result c.look_all_shapes.new.levels c.new-levels.ensures c.in-Ok.ensures.levels)
