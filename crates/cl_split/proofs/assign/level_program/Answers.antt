use Rattle.cl_split.specs.Answer.{annotated}
use Rattle.cl_split.proofs.Steps.{handed_levels, groups_failed, names_failed, both_hold, same_annotated}
use Rattle.cl_split.proofs.assign.level_program.Goals as goal

pub returns-in_err-look_groups : goal.returns-in_err-look_groups
returns-in_err-look_groups c =
    handed_levels (annotated c.args.typed.now c.args.labels.now) c.from_residual-in_err-look_groups.result c.in_err-look_groups.field-0.0 c.from_residual-in_err-look_groups.ensures.1
    (groups_failed (annotated c.args.typed.now c.args.labels.now) (annotated c.in_ok-found.found.typed.now c.in_ok-found.found.labels.now) c.in_err-look_groups.field-0.0 (same_annotated c.in_ok-found.found.typed.now c.args.typed.now c.in_ok-found.found.labels.now c.args.labels.now c.in_ok-found.ensures.typed c.in_ok-found.ensures.labels) c.in_err-look_groups.ensures)

pub returns-in_err-look_names : goal.returns-in_err-look_names
returns-in_err-look_names c =
    handed_levels (annotated c.args.typed.now c.args.labels.now) c.from_residual-in_err-look_names.result c.in_err-look_names.field-0.0 c.from_residual-in_err-look_names.ensures.1
    (names_failed (annotated c.args.typed.now c.args.labels.now) (annotated c.in_ok-found.found.typed.now c.in_ok-found.found.labels.now) c.in_err-look_names.field-0.0 (same_annotated c.in_ok-found.found.typed.now c.args.typed.now c.in_ok-found.found.labels.now c.args.labels.now c.in_ok-found.ensures.typed c.in_ok-found.ensures.labels) c.in_ok-look_groups.ensures c.in_err-look_names.ensures)

pub returns : goal.returns
returns c = both_hold (annotated c.args.typed.now c.args.labels.now) (annotated c.in_ok-found.found.typed.now c.in_ok-found.found.labels.now) c.in_ok-levels.levels (same_annotated c.in_ok-found.found.typed.now c.args.typed.now c.in_ok-found.found.labels.now c.args.labels.now c.in_ok-found.ensures.typed c.in_ok-found.ensures.labels) c.in_ok-look_groups.ensures c.in_ok-look_names.ensures c.in_ok-levels.ensures
