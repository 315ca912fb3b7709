use Rattle.std.proofs.Common.{◌≡◌, [], map, replicate}
use Rattle.cl_reach.proofs.Rows.{items_of}
use Rattle.cl_reach.proofs.graph.Graph.new.Given as goal

abbrev pub invariant-loop : goal.invariant-loop
invariant-loop l = map items_of l.rows.items ≡ replicate l.counter []
