use Rattle.std.proofs.Common.{◌≡◌, drop}
use Rattle.cl_typing.specs.Sizes.{over, objects}
use Rattle.cl_large.specs.Counts.{after_all}
use Rattle.cl_large.proofs.counts.count_objects.Given as goal

abbrev pub invariant-loop-d : goal.invariant-loop-d
invariant-loop-d l = record {
  rest : over l.totals (objects l.sizes (drop l.d-index l.ds)) ≡ over l.initial.totals (objects l.sizes l.ds);
  totals : after_all l.totals (objects l.sizes (drop l.d-index l.ds))
      ≡ after_all l.initial.totals (objects l.sizes l.ds);
}
