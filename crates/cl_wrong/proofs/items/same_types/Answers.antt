use Rattle.std.proofs.Common.{◌≤◌, length, arith}
use Rattle.cl_wrong.proofs.Params.{same_end}
use Rattle.cl_wrong.proofs.items.same_types.Goals as goal

pub returns : goal.returns
returns c =
    let a : length c.args.ds.now ≤ c.loop-i.i = omega arith in
    let b : c.loop-i.i ≤ length c.args.ds.now = omega arith in
    same_end c.args.ds.now c.args.es.now c.loop-i.i _ a b c.loop-i.invariant.within c.loop-i.invariant.rest
