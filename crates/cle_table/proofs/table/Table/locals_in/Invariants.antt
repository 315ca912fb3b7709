use Rattle.cle_ways.specs.declared.ways.Holder.TheVariants.{Local}
use Rattle.cle_table.specs.Exact.{CarriedBy}
use Rattle.cle_table.proofs.table.Table.locals_in.Given as goal

abbrev pub invariant-loop-k : goal.invariant-loop-k
invariant-loop-k l = CarriedBy l.self (Local l.f) l.k l.all
