use Rattle.std.proofs.Common.{◌≡◌, map, drop}
use Rattle.std.specs.List.{flat_map}
use Rattle.cl_typing.specs.Unknown.{expr_unknown}
use Rattle.cl_unknown.specs.Known.{known_of}
use Rattle.cl_unknown.proofs.exprs.+expr.Given as goal

abbrev pub invariant-look_exprs-loop-e : goal.invariant-look_exprs-loop-e
invariant-look_exprs-loop-e l =
    flat_map (λ ls. ls) (map (expr_unknown (known_of l.known) l.names) (drop l.e-index l.all))
    ≡ flat_map (λ ls. ls) (map (expr_unknown (known_of l.known) l.names) l.all)
