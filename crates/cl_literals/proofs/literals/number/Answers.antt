use Rattle.std.proofs.Common.{◌≡◌, ap, ◌*◌, sym, ◌∙◌, arith}
use Rattle.cl_literals.proofs.Numbers.{number_stops, number_ends}
use Rattle.cl_literals.proofs.literals.number.Goals as goal

pub returns-in_default : goal.returns-in_default
returns-in_default c = let h = c.in_default.ensures in let k = c.if-digit-base.false in let j = c.digit_of-digit.ensures in let b = c.from.ensures in let e : c.loop-b.value * c.from.result ≡ c.loop-b.value * c.args.base = ap (λ x. c.loop-b.value * x) b in
    sym (number_stops c.args.base c.loop-b.value c.loop-b.b-index c.args.digits.now c.requires (omega arith) (omega arith) (omega arith)) ∙ c.loop-b.invariant.same

pub returns-in_default-checked_add : goal.returns-in_default-checked_add
returns-in_default-checked_add c = let h = c.in_default-checked_add.ensures in let g = c.in-Some.ensures in let k = c.digit_of-digit.ensures in let b = c.from-in-loop-b.ensures in let e : c.loop-b.value * c.from.result ≡ c.loop-b.value * c.args.base = ap (λ x. c.loop-b.value * x) c.from.ensures in let f : c.in-Some.scaled ≡ c.loop-b.value * c.from.result = g.1 in
    sym (number_stops c.args.base c.loop-b.value c.loop-b.b-index c.args.digits.now c.requires (omega arith) (omega arith) (omega arith)) ∙ c.loop-b.invariant.same

pub returns : goal.returns
returns c = sym (number_ends c.args.base c.loop-b.value c.loop-b.b-index c.args.digits.now (omega arith) c.loop-b.invariant.fits) ∙ c.loop-b.invariant.same
