use Rattle.std.proofs.Common.{◌≡◌, ◌++◌, map, drop}
use Rattle.std.specs.List.{flat_map}
use Rattle.cl_mean.specs.Source.{statics_in}
use Rattle.cl_typing.specs.Facts.{object_fact}
use Rattle.cl_sema.proofs.facts.+stmt.Given as goal

abbrev pub invariant-push_all-loop-s : goal.invariant-push_all-loop-s
invariant-push_all-loop-s l = l.objects
    ++ map (object_fact l.owner l.place) (flat_map (λ ds. ds) (map statics_in (drop l.s-index l.all)))
    ≡ l.initial.objects ++ map (object_fact l.owner l.place) (flat_map (λ ds. ds) (map statics_in l.all))
