use Rattle.std.proofs.Common.{◌<◌, ◌^◌, sym, ap, ◌∙◌, pos, ◌-ℤ◌, FitsSigned, unsigned_abs, lit<}
use Rattle.std.proofs.lemmas.Int.{to_z-of_z}
use mir.Syntax.{w128}
use Rattle.cl_tree.specs.declared.kinds.UnOp.{UnOp}
use Rattle.cl_tree.specs.Arithmetic.{apply_one}
use Rattle.cl_tree.proofs.Ranges.{fits_size, difference_fits, truth_fits}
use Rattle.cl_tree.proofs.arithmetic.apply_one.Goals as goal

pub overflow_sub-a : goal.overflow_sub-a
overflow_sub-a c =
    let f : FitsSigned w128 c.args.a = c.ranges.a in
    let none : unsigned_abs (pos 0) < 2 ^ 64 = lit< tt in
    simp to_z-of_z (difference_fits (pos 0) c.args.a none (fits_size c.args.kind c.args.a c.requires.operand))

pub returns-in-Minus-clause-value : goal.returns-in-Minus-clause-value
unfolding apply_one
returns-in-Minus-clause-value c =
    let f : FitsSigned w128 c.args.a = c.ranges.a in
    let none : unsigned_abs (pos 0) < 2 ^ 64 = lit< tt in
    let h : FitsSigned w128 (pos 0 -ℤ c.args.a) = difference_fits (pos 0) c.args.a none (fits_size c.args.kind c.args.a c.requires.operand) in
    let e = simp to_z-of_z at c.settle.ensures.value in
    e ∙ ap (λ (op : UnOp). apply_one op c.args.kind c.args.a) (sym c.in-Minus.is)

pub returns-in-Not-clause-fits : goal.returns-in-Not-clause-fits
returns-in-Not-clause-fits c = truth_fits _ _ _ c.truth.ensures
