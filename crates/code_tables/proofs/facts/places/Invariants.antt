use Rattle.std.proofs.Common.{◌≡◌, ℕ, List, map, drop}
use Rattle.cl_scope.specs.Table.{place_at}
use Rattle.code_tables.specs.Facts.{called, first_of, place_from}
use Rattle.code_tables.proofs.facts.places.Given as goal

abbrev pub invariant-loop-place : goal.invariant-loop-place
invariant-loop-place l =
    (q : List ℕ) → first_of (place_at l.first q) (place_from l.place (map called (drop l.place l.all)) q) ≡ place_from 0 (map called l.all) q
