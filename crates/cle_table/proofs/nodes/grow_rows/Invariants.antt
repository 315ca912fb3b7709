use Rattle.std.proofs.Common.{◌≡◌, ℕ, [], length, get_or}
use Rattle.cle_table.proofs.nodes.grow_rows.Given as goal

abbrev pub invariant-loop : goal.invariant-loop
invariant-loop l = record {
  long : length l.rows.items ≡ l.counter;
  same : (g : ℕ) → get_or l.rows.items g [] ≡ get_or l.initial.rows.items g [];
}
