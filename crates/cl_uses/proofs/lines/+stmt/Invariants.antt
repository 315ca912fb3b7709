use Rattle.std.proofs.Common.{◌≡◌, ◌++◌, map, drop}
use Rattle.std.specs.List.{flat_map}
use Rattle.cl_levels.specs.Levels.{stmt_lines}
use Rattle.cl_uses.proofs.lines.+stmt.Given as goal

abbrev pub invariant-look_stmts-loop-s : goal.invariant-look_stmts-loop-s
invariant-look_stmts-loop-s l =
    l.lines.items ++ flat_map (λ ls. ls) (map stmt_lines (drop l.s-index l.all))
    ≡ l.initial.lines.items ++ flat_map (λ ls. ls) (map stmt_lines l.all)
