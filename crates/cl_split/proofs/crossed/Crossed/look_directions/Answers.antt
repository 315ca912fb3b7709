use Rattle.std.proofs.Common.{ap, ◌∙◌}
use Rattle.cl_levels.specs.Crossings.{wrong_direction}
use Rattle.cl_levels.specs.Placed.{listed}
use Rattle.cl_calls.specs.Calls.{wrong_direction_in}
use Rattle.cl_calls.proofs.Filtered.{wrong_direction_is}
use Rattle.cl_split.specs.Crossed.{program_of}
use Rattle.cl_split.proofs.Refused.{rule_answer, found_answers}
use Rattle.cl_split.proofs.crossed.Crossed.look_directions.Goals as goal

pub returns : goal.returns
returns c =
    rule_answer 27 (listed (wrong_direction (program_of c.args.self.now))) c.wrong_direction-found.result c.ruled.result c.ruled.ensures
    (found_answers c.wrong_direction-found.result _ (wrong_direction (program_of c.args.self.now))
    (ap (wrong_direction_in c.args.self.now.labels.now c.args.self.now.levels.now) c.as_slice.ensures.value ∙ wrong_direction_is c.args.self.now.typed.now c.args.self.now.labels.now c.args.self.now.levels.now c.args.self.now.crossings.items c.requires.crossings) c.wrong_direction-found.ensures)
