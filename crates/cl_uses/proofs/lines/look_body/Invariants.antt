use Rattle.std.proofs.Common.{◌≡◌, ◌++◌, drop}
use Rattle.std.specs.List.{flat_map}
use Rattle.cl_levels.specs.Levels.{stmt_lines}
use Rattle.cl_uses.proofs.lines.look_body.Given as goal

abbrev pub invariant-loop-s : goal.invariant-loop-s
invariant-loop-s l =
    l.lines.items ++ flat_map stmt_lines (drop l.s-index l.body) ≡ l.initial.lines.items ++ flat_map stmt_lines l.body
