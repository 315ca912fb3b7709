use Rattle.std.proofs.Common.{take}
use Rattle.cle_table.specs.Exact.{LocalsBy}
use Rattle.cle_table.proofs.table.Table.locals.Given as goal

abbrev pub invariant-loop-f : goal.invariant-loop-f
invariant-loop-f l = LocalsBy l.self (take l.f l.functions) l.all
