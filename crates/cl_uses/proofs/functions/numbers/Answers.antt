use Rattle.std.proofs.Common.{◌≡◌, ◌<◌, ◌≤◌, length, sym, subst, arith, if◌then◌else◌, Some, None, bytes_eq}
use Rattle.cl_mean.specs.declared.checked.FnFact.{FnFact}
use Rattle.cl_scope.specs.Table.{place_at}
use Rattle.cl_uses.specs.Numbers.{either}
use Rattle.cl_uses.proofs.Numbers.{number_step, number_end}
use Rattle.cl_uses.proofs.functions.numbers.Goals as goal

pub loop-number-preserved : goal.loop-number-preserved
loop-number-preserved c q =
    let h : c.loop-number.number < length c.args.all.now = omega arith in
    number_step c.args.all.now c.index-all-number.result c.loop-number.number (place_at c.loop-number.first q)
    (place_at c.note.new.first q) q _ h c.index-all-number.is
    (subst (λ (f : FnFact). place_at c.note.new.first q ≡ either (place_at c.loop-number.first q)
    (if bytes_eq f.name q then Some c.loop-number.number else None)) (sym c.index-all-number.is) (c.in_ok-note.ensures q))
    (c.loop-number.invariant q)

pub returns : goal.returns
returns c q =
    let h : length c.args.all.now ≤ c.loop-number.number = omega arith in
    number_end c.args.all.now c.loop-number.number (place_at c.loop-number.first q) q _ h (c.loop-number.invariant q)
