use Rattle.std.proofs.Common.{rules, sym, ◌∙◌, arith, add-one}
use Rattle.guard_rules.specs.Guards.{fitted}
use Rattle.guard_rules.proofs.InOrder.{blocks, passes, ends}
use Rattle.guard_rules.proofs.order.inspect_in_order.Goals as goal

pub returns-in-Block : goal.returns-in-Block
returns-in-Block g c =
    sym c.loop-place.invariant.same
    ∙ blocks (λ v. (goal.Guard-dyn g (v.vtable, v.value)).law v.value) (λ n. n) (fitted c.args.kinds.now) c.args.asked c.loop-place.guards c.loop-place.place _ _ _ _ (omega arith) c.in-Block.ensures

pub loop-place-preserved : goal.loop-place-preserved
loop-place-preserved g c = record {
  same = rw (add-one c.loop-place.place) (passes (λ v. (goal.Guard-dyn g (v.vtable, v.value)).law v.value) (λ n. n) (fitted c.args.kinds.now) c.args.asked c.loop-place.guards c.loop-place.place _ _ _ _ _ (omega arith) c.in-Pass.ensures c.fit.ensures ∙ c.loop-place.invariant.same);
  long = search rules;
}

pub returns : goal.returns
returns g c = sym c.loop-place.invariant.same ∙ ends (λ v. (goal.Guard-dyn g (v.vtable, v.value)).law v.value) (λ n. n) (fitted c.args.kinds.now) c.args.asked c.loop-place.guards c.loop-place.place c.loop-place.values (omega arith)
