use Rattle.std.proofs.Common.{codes, arith}
use Rattle.cl_split.proofs.Steps.{number_here, number_behind, no_number}
use Rattle.cl_split.proofs.grounds.main_number.Goals as goal

pub returns-then-is_main : goal.returns-then-is_main
returns-then-is_main c =
    number_here (codes "main") c.args.functions.now c.loop-k.k c.index-functions-k.result c.is_main.result (omega arith) c.index-functions-k.is c.is_main.ensures c.if-is_main.true c.loop-k.invariant

pub loop-k-preserved : goal.loop-k-preserved
loop-k-preserved c =
    number_behind (codes "main") c.args.functions.now c.loop-k.k c.index-functions-k.result c.is_main.result (omega arith) c.index-functions-k.is c.is_main.ensures c.if-is_main.false c.loop-k.invariant

pub returns : goal.returns
returns c = no_number (codes "main") c.args.functions.now c.loop-k.k (omega arith) c.loop-k.invariant
