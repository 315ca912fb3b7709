use Rattle.std.proofs.Common.{◌+◌, List, take, sym, subst, arith}
use Rattle.cl_mean.specs.declared.checked.CarriedLocals.{CarriedLocals}
use Rattle.cle_table.specs.Exact.{LocalsBy}
use Rattle.cle_table.proofs.Locals.{locals_more}
use Rattle.cle_table.proofs.table.Table.locals.Goals as goal

pub loop-f-preserved : goal.loop-f-preserved
loop-f-preserved c =
    subst (λ (all : List CarriedLocals). LocalsBy c.args.self.now (take (c.loop-f.f + 1) c.args.functions.now) all) (sym c.in_ok-push.ensures.ok)
    (locals_more c.args.self.now c.args.functions.now c.loop-f.f c.index-functions-f.result c.loop-f.all c.in_ok-locals.locals (omega arith) c.index-functions-f.is c.loop-f.invariant c.in_ok-locals.ensures)
