use Rattle.cle_ways.specs.declared.ways.Holder.TheVariants.{Object}
use Rattle.cle_table.specs.Exact.{CarriedBy}
use Rattle.cle_table.proofs.table.Table.objects.Given as goal

abbrev pub invariant-loop-k : goal.invariant-loop-k
invariant-loop-k l = CarriedBy l.self Object l.k l.all
