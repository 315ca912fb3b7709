use Rattle.std.proofs.Common.{◌≡◌, ◌++◌, map, drop}
use Rattle.cl_groups.specs.Foreign.{function_line}
use Rattle.cl_groups.proofs.lines.function_lines.Given as goal

abbrev pub invariant-loop-function : goal.invariant-loop-function
invariant-loop-function l = l.lines.items ++ map (function_line l.items) (drop l.function-index l.functions) ≡ map (function_line l.items) l.functions
