use Rattle.std.proofs.Common.{◌≡◌, map, drop}
use Rattle.std.specs.List.{flat_map}
use Rattle.cl_typing.specs.Tokens.{init_tokens}
use Rattle.cl_forbidden.proofs.exprs.+init.Given as goal

abbrev pub invariant-look_inits-loop-i : goal.invariant-look_inits-loop-i
invariant-look_inits-loop-i l =
    flat_map (λ ls. ls) (map (init_tokens l.sought) (drop l.i-index l.all))
    ≡ flat_map (λ ls. ls) (map (init_tokens l.sought) l.all)
