use Rattle.std.proofs.Common.{ap, ◌∙◌}
use Rattle.cl_levels.specs.Crossings.{no_entry}
use Rattle.cl_levels.specs.Placed.{listed}
use Rattle.cl_calls.specs.Calls.{no_entry_in}
use Rattle.cl_calls.proofs.Filtered.{no_entry_is}
use Rattle.cl_split.specs.Crossed.{program_of}
use Rattle.cl_split.proofs.Refused.{rule_answer, found_answers}
use Rattle.cl_split.proofs.crossed.Crossed.look_entries.Goals as goal

pub returns : goal.returns
returns c =
    rule_answer 26 (listed (no_entry (program_of c.args.self.now))) c.no_entry-found.result c.ruled.result c.ruled.ensures
    (found_answers c.no_entry-found.result _ (no_entry (program_of c.args.self.now))
    (ap (no_entry_in c.args.self.now.labels.now c.args.self.now.levels.now) c.as_slice.ensures.value ∙ no_entry_is c.args.self.now.typed.now c.args.self.now.labels.now c.args.self.now.levels.now c.args.self.now.crossings.items c.requires.crossings) c.no_entry-found.ensures)
