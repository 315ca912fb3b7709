use Rattle.std.proofs.Common.{Ok, subst}
use Rattle.cl_split.specs.Answer.{levelled, RowsAnswer}
use Rattle.cl_split.specs.Crossed.{program_of}
use Rattle.cl_split.proofs.Refused.{handed, entries_failed, directions_failed, levels_failed, loans_failed, payloads_failed, all_hold}
use Rattle.cl_split.proofs.crossings.cross_program.Goals as goal

pub returns-in_err-look_entries : goal.returns-in_err-look_entries
returns-in_err-look_entries c =
    subst (λ l. RowsAnswer l c.from_residual-in_err-look_entries.result) c.in_ok-crossed.ensures.program
    (handed (program_of c.in_ok-crossed.crossed) c.from_residual-in_err-look_entries.result c.in_err-look_entries.field-0.0 c.from_residual-in_err-look_entries.ensures.1
    (entries_failed (program_of c.in_ok-crossed.crossed) c.in_err-look_entries.field-0.0 c.in_err-look_entries.ensures))

pub returns-in_err-look_directions : goal.returns-in_err-look_directions
returns-in_err-look_directions c =
    subst (λ l. RowsAnswer l c.from_residual-in_err-look_directions.result) c.in_ok-crossed.ensures.program
    (handed (program_of c.in_ok-crossed.crossed) c.from_residual-in_err-look_directions.result c.in_err-look_directions.field-0.0 c.from_residual-in_err-look_directions.ensures.1
    (directions_failed (program_of c.in_ok-crossed.crossed) c.in_ok-look_entries.ensures c.in_err-look_directions.field-0.0 c.in_err-look_directions.ensures))

pub returns-in_err-look_levels : goal.returns-in_err-look_levels
returns-in_err-look_levels c =
    subst (λ l. RowsAnswer l c.from_residual-in_err-look_levels.result) c.in_ok-crossed.ensures.program
    (handed (program_of c.in_ok-crossed.crossed) c.from_residual-in_err-look_levels.result c.in_err-look_levels.field-0.0 c.from_residual-in_err-look_levels.ensures.1
    (levels_failed (program_of c.in_ok-crossed.crossed) c.in_ok-look_entries.ensures c.in_ok-look_directions.ensures c.in_err-look_levels.field-0.0 c.in_err-look_levels.ensures))

pub returns-in_err-look_loans : goal.returns-in_err-look_loans
returns-in_err-look_loans c =
    subst (λ l. RowsAnswer l c.from_residual-in_err-look_loans.result) c.in_ok-crossed.ensures.program
    (handed (program_of c.in_ok-crossed.crossed) c.from_residual-in_err-look_loans.result c.in_err-look_loans.field-0.0 c.from_residual-in_err-look_loans.ensures.1
    (loans_failed (program_of c.in_ok-crossed.crossed) c.in_ok-look_entries.ensures c.in_ok-look_directions.ensures c.in_ok-look_levels.ensures c.in_err-look_loans.field-0.0 c.in_err-look_loans.ensures))

pub returns-in_err-look_payloads : goal.returns-in_err-look_payloads
returns-in_err-look_payloads c =
    subst (λ l. RowsAnswer l c.from_residual-in_err-look_payloads.result) c.in_ok-crossed.ensures.program
    (handed (program_of c.in_ok-crossed.crossed) c.from_residual-in_err-look_payloads.result c.in_err-look_payloads.field-0.0 c.from_residual-in_err-look_payloads.ensures.1
    (payloads_failed (program_of c.in_ok-crossed.crossed) c.in_ok-look_entries.ensures c.in_ok-look_directions.ensures c.in_ok-look_levels.ensures c.in_ok-look_loans.ensures c.in_err-look_payloads.field-0.0 c.in_err-look_payloads.ensures))

pub returns : goal.returns
returns c =
    subst (λ l. RowsAnswer l (Ok c.in_ok-rows.rows)) c.in_ok-crossed.ensures.program
    (all_hold (program_of c.in_ok-crossed.crossed) c.in_ok-look_entries.ensures c.in_ok-look_directions.ensures c.in_ok-look_levels.ensures c.in_ok-look_loans.ensures c.in_ok-look_payloads.ensures c.in_ok-rows.rows c.in_ok-rows.ensures)
