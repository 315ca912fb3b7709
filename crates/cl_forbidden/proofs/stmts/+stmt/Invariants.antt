use Rattle.std.proofs.Common.{◌≡◌, map, drop}
use Rattle.std.specs.List.{flat_map}
use Rattle.cl_typing.specs.Tokens.{stmt_tokens}
use Rattle.cl_forbidden.proofs.stmts.+stmt.Given as goal

abbrev pub invariant-look_all-loop-s : goal.invariant-look_all-loop-s
invariant-look_all-loop-s l =
    flat_map (λ ls. ls) (map (stmt_tokens l.sought) (drop l.s-index l.all))
    ≡ flat_map (λ ls. ls) (map (stmt_tokens l.sought) l.all)
