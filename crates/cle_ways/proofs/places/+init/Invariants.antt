use Rattle.std.proofs.Common.{◌≡◌, ◌++◌, map, drop}
use Rattle.std.specs.List.{flat_map}
use Rattle.cle_ways.specs.Ways.{init_notes}
use Rattle.cle_ways.proofs.places.+init.Given as goal

abbrev pub invariant-look_inits-loop-i : goal.invariant-look_inits-loop-i
invariant-look_inits-loop-i l =
    l.notes.items ++ flat_map (λ ns. ns) (map (init_notes l.program l.f l.spot.known l.x) (drop l.i-index l.all))
    ≡ l.initial.notes.items ++ flat_map (λ ns. ns) (map (init_notes l.program l.f l.spot.known l.x) l.all)
