use Rattle.std.proofs.Common.{sym, subst}
use Rattle.cl_front.specs.Stops.{of_reading, of_typing, of_labelling, of_splitting, of_flowing}
use Rattle.cl_front.proofs.Verdicts.{handed, typed_itself, reading_fails, typing_fails, labelling_fails, levels_fail, crossings_fail, flow_fails}
use Rattle.cl_read.specs.Source.{ReadsWithin}
use Rattle.cl_front.proofs.accept.accept_source.Goals as goal

pub returns-in_err-program : goal.returns-in_err-program
returns-in_err-program c =
    handed c.args.bytes.now c.from_residual.result (of_reading c.in_err-program.field-0.0) c.from_residual.ensures.1
    (reading_fails c.args.bytes.now c.in_err-program.field-0.0 c.in_err-program.ensures.fails)

pub returns-in_err-typed : goal.returns-in_err-typed
returns-in_err-typed c =
    handed c.args.bytes.now c.from_residual-in_err-typed.result (of_typing c.in_err-typed.field-0.0) c.from_residual-in_err-typed.ensures.1
    (typing_fails c.args.bytes.now c.in_ok-program.program c.in_ok-program.ensures.found c.in_err-typed.field-0.0 c.in_err-typed.ensures.fails)

pub returns-in_err-labels : goal.returns-in_err-labels
returns-in_err-labels c =
    handed c.args.bytes.now c.from_residual-in_err-labels.result (of_labelling c.in_err-labels.field-0.0) c.from_residual-in_err-labels.ensures.1
    (labelling_fails c.args.bytes.now c.in_ok-program.program c.in_ok-program.ensures.found c.in_ok-typed.typed c.in_ok-typed.ensures.found c.in_err-labels.field-0.0 c.in_err-labels.ensures.fails)

pub assign-requires-clause-typed : goal.assign-requires-clause-typed
assign-requires-clause-typed c = typed_itself c.in_ok-program.program c.in_ok-typed.typed c.in_ok-typed.ensures.found

pub returns-in_err-levels : goal.returns-in_err-levels
returns-in_err-levels c =
    handed c.args.bytes.now c.from_residual-in_err-levels.result (of_splitting c.in_err-levels.field-0.0) c.from_residual-in_err-levels.ensures.1
    (levels_fail c.args.bytes.now c.in_ok-program.program c.in_ok-program.ensures.found c.in_ok-typed.typed c.in_ok-typed.ensures.found c.in_ok-labels.labels c.in_ok-labels.ensures.found c.in_err-levels.field-0.0 c.in_err-levels.ensures.fails)

pub crossings-requires-clause-typed : goal.crossings-requires-clause-typed
crossings-requires-clause-typed c = typed_itself c.in_ok-program.program c.in_ok-typed.typed c.in_ok-typed.ensures.found

pub returns-in_err-gedl : goal.returns-in_err-gedl
returns-in_err-gedl c =
    handed c.args.bytes.now c.from_residual-in_err-gedl.result (of_splitting c.in_err-gedl.field-0.0) c.from_residual-in_err-gedl.ensures.1
    (crossings_fail c.args.bytes.now c.in_ok-program.program c.in_ok-program.ensures.found c.in_ok-typed.typed c.in_ok-typed.ensures.found c.in_ok-labels.labels c.in_ok-labels.ensures.found c.in_ok-levels.levels c.in_ok-levels.ensures.found c.in_err-gedl.field-0.0 c.in_err-gedl.ensures.fails)

pub returns-in_err-flow : goal.returns-in_err-flow
returns-in_err-flow c =
    handed c.args.bytes.now c.from_residual-in_err-flow.result (of_flowing c.in_err-flow.field-0.0) c.from_residual-in_err-flow.ensures.1
    (flow_fails c.args.bytes.now c.in_ok-program.program c.in_ok-program.ensures.found c.in_ok-typed.typed c.in_ok-typed.ensures.found c.in_ok-labels.labels c.in_ok-labels.ensures.found c.in_ok-levels.levels c.in_ok-levels.ensures.found c.in_ok-gedl.gedl c.in_ok-gedl.ensures.found c.in_err-flow.field-0.0 c.in_err-flow.ensures.fails)

pub returns : goal.returns
returns c = record {
  reads = subst (ReadsWithin c.args.bytes.now) (sym c.in_ok-typed.ensures.found.same) c.in_ok-program.ensures.found;
  is_typed = typed_itself c.in_ok-program.program c.in_ok-typed.typed c.in_ok-typed.ensures.found;
  is_labelled = c.in_ok-labels.ensures.found;
  has_levels = c.in_ok-levels.ensures.found;
  has_rows = c.in_ok-gedl.ensures.found;
  has_flow = c.in_ok-flow.ensures.found;
}
