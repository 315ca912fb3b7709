use Rattle.std.proofs.Common.{◌≡◌, ◌++◌, map, drop}
use Rattle.cl_typing.specs.Facts.{object_fact}
use Rattle.cl_sema.proofs.facts.push_objects.Given as goal

abbrev pub invariant-loop-d : goal.invariant-loop-d
invariant-loop-d l = l.objects ++ map (object_fact l.owner l.place) (drop l.d-index l.ds) ≡ l.initial.objects
    ++ map (object_fact l.owner l.place) l.ds
