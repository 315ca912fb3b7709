use Rattle.std.proofs.Common.{◌≤◌, length, arith}
use Rattle.cl_typing.specs.Types.{judged}
use Rattle.cl_types.proofs.Arguments.{fits_end}
use Rattle.cl_types.proofs.exprs.+expr.Goals as goal

pub arguments_fit-returns : goal.arguments_fit-returns
arguments_fit-returns t c =
    let a : length c.args.arguments.now ≤ c.loop-i.i = omega arith in
    let b : c.loop-i.i ≤ length c.args.arguments.now = omega arith in
    fits_end (judged c.args.tags.now c.args.names.now) c.args.params.now c.args.arguments.now c.loop-i.i _ a b
    c.loop-i.invariant.within c.loop-i.invariant.rest
