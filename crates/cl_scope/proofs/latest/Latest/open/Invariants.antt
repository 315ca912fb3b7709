use Rattle.std.proofs.Common.{◌≡◌, ℕ, List, length}
use Rattle.cl_scope.specs.Table.{place_at}
use Rattle.cl_scope.proofs.latest.Latest.open.Given as goal

abbrev pub invariant-loop : goal.invariant-loop
invariant-loop l = record {
  long : length l.self.maps.items ≡ l.counter;
  same : (q : List ℕ) → place_at l.self q ≡ place_at l.initial.self q;
}
