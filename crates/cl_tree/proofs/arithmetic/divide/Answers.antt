use Rattle.std.proofs.Common.{sym, ◌∙◌, FitsSigned, int_div}
use Rattle.std.proofs.lemmas.Int.{to_z-of_z}
use mir.Syntax.{w128}
use Rattle.cl_tree.proofs.Ranges.{fits_size, can_divide, quotient_fits, quotient_is}
use Rattle.cl_tree.proofs.arithmetic.divide.Goals as goal

pub nonzero_div-a : goal.nonzero_div-a
nonzero_div-a c =
    let f : FitsSigned w128 c.args.b = c.ranges.b in
    let zero_test = simp to_z-of_z at (sym c.is_zero.ensures ∙ c.if-is_zero.false) in
    can_divide c.args.a c.args.b c.ranges.a f (fits_size c.args.kind c.args.a c.requires) zero_test

pub returns-else-is_zero-clause-value : goal.returns-else-is_zero-clause-value
returns-else-is_zero-clause-value c =
    let f : FitsSigned w128 c.args.a = c.ranges.a in
    let g : FitsSigned w128 c.args.b = c.ranges.b in
    let h : FitsSigned w128 (int_div c.args.a c.args.b) = quotient_fits c.args.a c.args.b (fits_size c.args.kind c.args.a c.requires) in
    let zero_test = simp to_z-of_z at (sym c.is_zero.ensures ∙ c.if-is_zero.false) in
    let e = simp to_z-of_z at c.settle.ensures.value in
    e ∙ sym (quotient_is c.args.kind c.args.a c.args.b zero_test)
