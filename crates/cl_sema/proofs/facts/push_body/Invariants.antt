use Rattle.std.proofs.Common.{◌≡◌, ◌++◌, map, drop}
use Rattle.std.specs.List.{flat_map}
use Rattle.cl_mean.specs.Source.{statics_in}
use Rattle.cl_typing.specs.Facts.{object_fact}
use Rattle.cl_sema.proofs.facts.push_body.Given as goal

abbrev pub invariant-loop-s : goal.invariant-loop-s
invariant-loop-s l = l.objects
    ++ map (object_fact l.owner l.place) (flat_map statics_in (drop l.s-index l.body)) ≡ l.initial.objects
    ++ map (object_fact l.owner l.place) (flat_map statics_in l.body)
