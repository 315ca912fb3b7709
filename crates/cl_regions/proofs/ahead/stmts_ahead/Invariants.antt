use Rattle.std.proofs.Common.{◌-◌, map, drop, length}
use Rattle.cl_labelling.specs.Regions.{stmt_part}
use Rattle.cl_regions.specs.Walks.{IsAhead}
use Rattle.cl_regions.proofs.ahead.stmts_ahead.Given as goal

abbrev pub invariant-loop-i : goal.invariant-loop-i
invariant-loop-i l = IsAhead l.ahead (map stmt_part (drop (length l.ss - l.i) l.ss))
