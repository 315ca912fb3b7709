use Rattle.std.proofs.Common.{◌≡◌, map, drop}
use Rattle.std.specs.List.{flat_map}
use Rattle.cl_typing.specs.Tokens.{expr_tokens}
use Rattle.cl_forbidden.proofs.exprs.+expr.Given as goal

abbrev pub invariant-look_exprs-loop-e : goal.invariant-look_exprs-loop-e
invariant-look_exprs-loop-e l =
    flat_map (λ ls. ls) (map (expr_tokens l.sought) (drop l.e-index l.all))
    ≡ flat_map (λ ls. ls) (map (expr_tokens l.sought) l.all)
