use Rattle.std.proofs.Common.{◌≡◌, ℤ, true, sym, ap, subst, ◌∙◌, Ok, FitsSigned, int_div}
use Rattle.std.proofs.lemmas.Int.{to_z-of_z, rem_is}
use mir.Syntax.{w128}
use Rattle.cl_tree.specs.Arithmetic.{fits}
use Rattle.cl_tree.proofs.Ranges.{fits_size, can_divide, quotient_fits, remainder_is, remainder_fits}
use Rattle.cl_tree.proofs.arithmetic.remainder.Goals as goal

pub nonzero_div-a : goal.nonzero_div-a
nonzero_div-a c =
    let f : FitsSigned w128 c.args.b = c.ranges.b in
    let zero_test = simp to_z-of_z at (sym c.is_zero.ensures ∙ c.if-is_zero.false) in
    can_divide c.args.a c.args.b c.ranges.a f (fits_size c.args.kind c.args.a c.requires) zero_test

pub nonzero_rem-result : goal.nonzero_rem-result
nonzero_rem-result c =
    let f : FitsSigned w128 c.args.b = c.ranges.b in
    let zero_test = simp to_z-of_z at (sym c.is_zero.ensures ∙ c.if-is_zero.false) in
    can_divide c.args.a c.args.b c.ranges.a f (fits_size c.args.kind c.args.a c.requires) zero_test

pub returns-then-fits-clause-value : goal.returns-then-fits-clause-value
returns-then-fits-clause-value c =
    let f : FitsSigned w128 c.args.a = c.ranges.a in
    let g : FitsSigned w128 c.args.b = c.ranges.b in
    let h : FitsSigned w128 (int_div c.args.a c.args.b) = quotient_fits c.args.a c.args.b (fits_size c.args.kind c.args.a c.requires) in
    let zero_test = simp to_z-of_z at (sym c.is_zero.ensures ∙ c.if-is_zero.false) in
    let in_range = simp to_z-of_z at (sym c.fits.ensures ∙ c.if-fits.true) in
    ap Ok (rem_is w128 c.args.a c.args.b f g) ∙ sym (remainder_is c.args.kind c.args.a c.args.b zero_test in_range)

pub returns-then-fits-clause-fits : goal.returns-then-fits-clause-fits
returns-then-fits-clause-fits c =
    let is = rem_is w128 c.args.a c.args.b c.ranges.a c.ranges.b in
    subst (λ (z : ℤ). fits c.args.kind z ≡ true) (sym is) (remainder_fits c.args.kind c.args.a c.args.b c.requires)
