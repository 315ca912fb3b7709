use Rattle.std.proofs.Common.{◌≡◌, ℕ, length}
use Rattle.cle_table.specs.Numbers.{row_at}
use Rattle.cle_table.proofs.nodes.grow.Given as goal

abbrev pub invariant-loop : goal.invariant-loop
invariant-loop l = record {
  long : length l.row.items ≡ l.counter;
  same : (j : ℕ) → row_at l.row.items j ≡ row_at l.initial.row.items j;
}
