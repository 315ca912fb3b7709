use Rattle.std.proofs.Common.{ap, ◌∙◌}
use Rattle.cl_labelling.specs.Regions.{marked_of}
use Rattle.cl_regions.specs.Marks.{kept_all}
use Rattle.cle_items.specs.Numbered.{numbered}
use Rattle.cle_defs.proofs.Items.{numbers_here}
use Rattle.cle_defs.proofs.rules.items.Goals as goal

pub returns-in-Ok-clause-items : goal.returns-in-Ok-clause-items
returns-in-Ok-clause-items c =
    numbers_here c.args.program.now c.args.names.now (kept_all c.deref-in-Ok.result.now) (numbered c.in_ok-number_items-in-Ok.field-0.items) c.requires
    (ap kept_all c.deref-in-Ok.ensures.value ∙ c.in_ok-marks.ensures)
    (c.in-Ok.ensures (marked_of c.args.program.now) (ap kept_all c.deref.ensures.value ∙ c.in_ok-marks.ensures))
    c.in_ok-number_items-in-Ok.ensures
