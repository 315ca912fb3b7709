use Rattle.std.proofs.Common.{◌≡◌, drop}
use Rattle.cl_run.specs.FormCalls.{row_from}
use Rattle.cl_run.proofs.calls.route_of.Given as goal

abbrev pub invariant-loop-number : goal.invariant-loop-number
invariant-loop-number l = row_from l.number (drop l.number l.rows) l.level l.name ≡ row_from 0 l.rows l.level l.name
