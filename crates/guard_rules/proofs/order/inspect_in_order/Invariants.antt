use Rattle.std.proofs.Common.{◌≡◌, map, length}
use Rattle.cl_mean.specs.Judging.{laws_judge}
use Rattle.guard_rules.specs.Guards.{fitted}
use Rattle.guard_rules.proofs.InOrder.{from_place}
use Rattle.guard_rules.proofs.order.inspect_in_order.Given as goal

abbrev pub invariant-loop-place : goal.invariant-loop-place
invariant-loop-place g l = record {
  same : from_place (λ v. (goal.Guard-dyn g (v.vtable, v.value)).law v.value) (λ n. n) (fitted l.kinds) l.asked l.guards l.place l.values ≡ laws_judge (λ n. n) (fitted l.kinds) (map (λ v. (goal.Guard-dyn g (v.vtable, v.value)).law v.value) l.initial.guards) l.asked l.initial.values;
  long : length l.guards ≡ length l.initial.guards;
}
