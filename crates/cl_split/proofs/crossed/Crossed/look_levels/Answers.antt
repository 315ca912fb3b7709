use Rattle.std.proofs.Common.{◌∙◌}
use Rattle.cl_levels.specs.Crossings.{cycle_of_levels}
use Rattle.cl_split.specs.Crossed.{program_of}
use Rattle.cl_split.proofs.Calling.{small_levels, cycle_is}
use Rattle.cl_split.proofs.Refused.{rule_answer}
use Rattle.cl_split.proofs.crossed.Crossed.look_levels.Goals as goal

pub cycle-found-requires : goal.cycle-found-requires
cycle-found-requires c = small_levels c.args.self.now.typed.now c.args.self.now.labels.now c.requires.labels c.args.self.now.levels.now c.requires.levels

pub returns : goal.returns
returns c =
    rule_answer 28 (cycle_of_levels (program_of c.args.self.now)) c.cycle-found.result c.ruled.result c.ruled.ensures
    (cycle_is (program_of c.args.self.now) c.as_slice.result.now c.cycle-found.result (c.as_slice.ensures.value ∙ c.requires.crossings) c.cycle-found.ensures)
