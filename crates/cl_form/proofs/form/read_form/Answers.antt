use Rattle.std.proofs.Common.{rules}
use Rattle.cl_form.proofs.Whole.{code_found, code_only, stop_only}
use Rattle.cl_form.proofs.form.read_form.Goals as goal

pub returns-in_err-program-clause-only : goal.returns-in_err-program-clause-only
returns-in_err-program-clause-only c = λ d h.
    let s = stop_only c.args.source.now _ c.in_err-program.ensures.only d h in
    let f = c.from_residual.ensures in
    search (rules, s, f)

pub returns-clause-found : goal.returns-clause-found
returns-clause-found c = code_found c.args.source.now c.in_ok-program.program c.read_program.result c.in_ok-program.ensures.found c.read_program.ensures

pub returns-clause-only : goal.returns-clause-only
returns-clause-only c = code_only c.args.source.now c.in_ok-program.program c.read_program.result c.in_ok-program.ensures.found c.read_program.ensures
