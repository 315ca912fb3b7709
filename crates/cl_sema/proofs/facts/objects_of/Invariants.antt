use Rattle.std.proofs.Common.{◌≡◌, ◌++◌, drop}
use Rattle.cl_typing.specs.Facts.{objects_from}
use Rattle.cl_sema.proofs.facts.objects_of.Given as goal

abbrev pub invariant-loop-place : goal.invariant-loop-place
invariant-loop-place l =
    l.objects ++ objects_from l.place l.number (drop l.place l.program.items) ≡ objects_from 0 0 l.program.items
