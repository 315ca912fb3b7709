use Rattle.cle_ways.specs.declared.ways.Holder.TheVariants.{Result}
use Rattle.cle_table.specs.Exact.{CarriedBy}
use Rattle.cle_table.proofs.table.Table.results.Given as goal

abbrev pub invariant-loop-f : goal.invariant-loop-f
invariant-loop-f l = CarriedBy l.self Result l.f l.all
