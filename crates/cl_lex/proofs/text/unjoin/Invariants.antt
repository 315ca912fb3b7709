use Rattle.std.proofs.Common.{◌≡◌, ◌≤◌, ◌+◌, ◌++◌, drop, map}
use Rattle.cl_tree.specs.Joins.{cells, bytes_of, places_of}
use Rattle.cl_lex.proofs.text.unjoin.Given as goal

abbrev pub invariant-loop-i : goal.invariant-loop-i
invariant-loop-i l = record {
  lines : l.line ≤ l.i + 1;
  bytes : l.bytes.items ++ map (λ c. c.byte) (cells l.skip l.i l.line (drop l.i l.source)) ≡ bytes_of l.source;
  places : l.places.items ++ map (λ c. c.place) (cells l.skip l.i l.line (drop l.i l.source)) ≡ places_of l.source;
}
