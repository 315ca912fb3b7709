use Rattle.std.proofs.Common.{◌≡◌, ◌++◌, drop}
use Rattle.cl_typing.specs.Facts.{functions_from}
use Rattle.cl_sema.proofs.facts.functions_of.Given as goal

abbrev pub invariant-loop-place : goal.invariant-loop-place
invariant-loop-place l =
    l.functions ++ functions_from l.place (drop l.place l.program.items) ≡ functions_from 0 l.program.items
