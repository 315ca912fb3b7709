use Rattle.std.proofs.Common.{◌≡◌, ◌++◌, map, drop}
use Rattle.std.specs.List.{flat_map}
use Rattle.cle_ways.specs.Ways.{gist, arguments, printed}
use Rattle.cle_ways.proofs.exprs.+gist.Given as goal

abbrev pub invariant-look_arguments-loop-k : goal.invariant-look_arguments-loop-k
invariant-look_arguments-loop-k l =
    l.notes.items ++ arguments l.program l.f l.callee l.line l.k (map (gist l.program l.f l.spot.known) (drop l.k l.all))
    ≡ l.initial.notes.items ++ arguments l.program l.f l.callee l.line 0 (map (gist l.program l.f l.spot.known) l.all)

abbrev pub invariant-look_printed-loop-e : goal.invariant-look_printed-loop-e
invariant-look_printed-loop-e l =
    l.notes.items ++ flat_map (printed l.program l.f l.line) (map (gist l.program l.f l.spot.known) (drop l.e-index l.all))
    ≡ l.initial.notes.items ++ flat_map (printed l.program l.f l.line) (map (gist l.program l.f l.spot.known) l.all)
