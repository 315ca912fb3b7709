use Rattle.std.proofs.Common.{sym, ap, ◌∙◌, ◌+ℤ◌, ◌-ℤ◌, FitsSigned}
use Rattle.std.proofs.lemmas.Int.{to_z-of_z}
use mir.Syntax.{w128}
use Rattle.cl_tree.specs.declared.kinds.BinOp.{BinOp}
use Rattle.cl_tree.specs.Arithmetic.{apply, is_shift}
use Rattle.cl_tree.proofs.Ranges.{fits_size, sum_fits, difference_fits, truth_fits}
use Rattle.cl_tree.proofs.arithmetic.apply.Goals as goal

pub returns-after-not-is_zero-clause-fits : goal.returns-after-not-is_zero-clause-fits
returns-after-not-is_zero-clause-fits c = truth_fits _ _ _ c.truth.ensures

pub returns-after-not-is_zero-2-clause-fits : goal.returns-after-not-is_zero-2-clause-fits
returns-after-not-is_zero-2-clause-fits c = truth_fits _ _ _ c.truth-in-And.ensures

pub returns-in-Equal-clause-fits : goal.returns-in-Equal-clause-fits
returns-in-Equal-clause-fits c = truth_fits _ _ _ c.truth-in-Equal.ensures

pub returns-in-Unequal-clause-fits : goal.returns-in-Unequal-clause-fits
returns-in-Unequal-clause-fits c = truth_fits _ _ _ c.truth-in-Unequal.ensures

pub returns-in-Less-clause-fits : goal.returns-in-Less-clause-fits
returns-in-Less-clause-fits c = truth_fits _ _ _ c.truth-in-Less.ensures

pub returns-in-Greater-clause-fits : goal.returns-in-Greater-clause-fits
returns-in-Greater-clause-fits c = truth_fits _ _ _ c.truth-in-Greater.ensures

pub returns-in-AtMost-clause-fits : goal.returns-in-AtMost-clause-fits
returns-in-AtMost-clause-fits c = truth_fits _ _ _ c.truth-in-AtMost.ensures

pub returns-in-AtLeast-clause-fits : goal.returns-in-AtLeast-clause-fits
returns-in-AtLeast-clause-fits c = truth_fits _ _ _ c.truth-in-AtLeast.ensures

pub overflow_add-a : goal.overflow_add-a
unfolding is_shift
overflow_add-a c =
    let f : FitsSigned w128 c.args.a = c.ranges.a in
    let g : FitsSigned w128 c.args.b = c.ranges.b in
    let right = c.requires.right (ap is_shift c.in-Add.is) in
    simp to_z-of_z (sum_fits c.args.a c.args.b (fits_size c.args.kind c.args.a c.requires.left) (fits_size c.args.kind c.args.b right))

pub returns-in-Add-clause-value : goal.returns-in-Add-clause-value
unfolding apply is_shift
returns-in-Add-clause-value c =
    let f : FitsSigned w128 c.args.a = c.ranges.a in
    let g : FitsSigned w128 c.args.b = c.ranges.b in
    let right = c.requires.right (ap is_shift c.in-Add.is) in
    let h : FitsSigned w128 (c.args.a +ℤ c.args.b) = sum_fits c.args.a c.args.b (fits_size c.args.kind c.args.a c.requires.left) (fits_size c.args.kind c.args.b right) in
    let e = simp to_z-of_z at c.settle.ensures.value in
    e ∙ ap (λ (op : BinOp). apply op c.args.kind c.args.a c.args.b) (sym c.in-Add.is)

pub overflow_sub-a : goal.overflow_sub-a
unfolding is_shift
overflow_sub-a c =
    let f : FitsSigned w128 c.args.a = c.ranges.a in
    let g : FitsSigned w128 c.args.b = c.ranges.b in
    let right = c.requires.right (ap is_shift c.in-Sub.is) in
    simp to_z-of_z (difference_fits c.args.a c.args.b (fits_size c.args.kind c.args.a c.requires.left) (fits_size c.args.kind c.args.b right))

pub returns-in-Sub-clause-value : goal.returns-in-Sub-clause-value
unfolding apply is_shift
returns-in-Sub-clause-value c =
    let f : FitsSigned w128 c.args.a = c.ranges.a in
    let g : FitsSigned w128 c.args.b = c.ranges.b in
    let right = c.requires.right (ap is_shift c.in-Sub.is) in
    let h : FitsSigned w128 (c.args.a -ℤ c.args.b) = difference_fits c.args.a c.args.b (fits_size c.args.kind c.args.a c.requires.left) (fits_size c.args.kind c.args.b right) in
    let e = simp to_z-of_z at c.settle-in-Sub.ensures.value in
    e ∙ ap (λ (op : BinOp). apply op c.args.kind c.args.a c.args.b) (sym c.in-Sub.is)
