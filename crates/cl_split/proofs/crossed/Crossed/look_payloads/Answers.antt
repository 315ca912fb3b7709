use Rattle.std.proofs.Common.{◌∙◌}
use Rattle.cl_levels.specs.Crossings.{too_wide}
use Rattle.cl_levels.specs.Placed.{listed}
use Rattle.cl_rows.proofs.Payloads.{too_wide_is}
use Rattle.cl_split.specs.Crossed.{program_of}
use Rattle.cl_split.proofs.Calling.{callees_small}
use Rattle.cl_split.proofs.Laws.{few_functions}
use Rattle.cl_split.proofs.Refused.{rule_answer, found_answers}
use Rattle.cl_split.proofs.crossed.Crossed.look_payloads.Goals as goal

pub too_wide-found-requires : goal.too_wide-found-requires
too_wide-found-requires c = record { callees = callees_small (program_of c.args.self.now) c.as_slice.result.now (few_functions c.args.self.now.typed.now c.requires.typed) (c.as_slice.ensures.value ∙ c.requires.crossings) }

pub returns : goal.returns
returns c =
    rule_answer 30 (listed (too_wide (program_of c.args.self.now))) c.too_wide-found.result c.ruled.result c.ruled.ensures
    (found_answers c.too_wide-found.result _ (too_wide (program_of c.args.self.now))
    (too_wide_is c.args.self.now.typed.now c.args.self.now.labels.now c.args.self.now.levels.now c.as_slice.result.now (c.as_slice.ensures.value ∙ c.requires.crossings)) c.too_wide-found.ensures)
