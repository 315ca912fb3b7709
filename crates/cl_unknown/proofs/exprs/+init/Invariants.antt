use Rattle.std.proofs.Common.{◌≡◌, map, drop}
use Rattle.std.specs.List.{flat_map}
use Rattle.cl_typing.specs.Unknown.{init_unknown}
use Rattle.cl_unknown.specs.Known.{known_of}
use Rattle.cl_unknown.proofs.exprs.+init.Given as goal

abbrev pub invariant-look_inits-loop-i : goal.invariant-look_inits-loop-i
invariant-look_inits-loop-i l =
    flat_map (λ ls. ls) (map (init_unknown (known_of l.known) l.names) (drop l.i-index l.all))
    ≡ flat_map (λ ls. ls) (map (init_unknown (known_of l.known) l.names) l.all)
