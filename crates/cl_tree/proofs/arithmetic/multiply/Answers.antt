use Rattle.std.proofs.Common.{◌≡◌, ℤ, true, sym, ap, subst, ◌∙◌, ◌*ℤ◌, Ok, FitsSigned}
use Rattle.std.proofs.lemmas.Int.{to_z-of_z}
use mir.Syntax.{w128}
use Rattle.cl_tree.specs.Arithmetic.{fits}
use Rattle.cl_tree.proofs.Ranges.{product_fits, settled_unsigned, value_fits}
use Rattle.cl_tree.proofs.arithmetic.multiply.Goals as goal

pub overflow_mul-a : goal.overflow_mul-a
overflow_mul-a c =
    let f : FitsSigned w128 c.args.a = c.ranges.a in
    let g : FitsSigned w128 c.args.b = c.ranges.b in
    simp to_z-of_z (product_fits c.args.kind c.args.a c.args.b (sym c.is_signed.ensures ∙ c.if-is_signed.true) c.requires.left c.requires.right)

pub returns-then-is_signed-clause-value : goal.returns-then-is_signed-clause-value
returns-then-is_signed-clause-value c =
    let f : FitsSigned w128 c.args.a = c.ranges.a in
    let g : FitsSigned w128 c.args.b = c.ranges.b in
    let h : FitsSigned w128 (c.args.a *ℤ c.args.b) = product_fits c.args.kind c.args.a c.args.b (sym c.is_signed.ensures ∙ c.if-is_signed.true) c.requires.left c.requires.right in
    simp to_z-of_z at c.settle.ensures.value

pub returns-else-is_signed-clause-value : goal.returns-else-is_signed-clause-value
returns-else-is_signed-clause-value c =
    let f : FitsSigned w128 c.args.a = c.ranges.a in
    let g : FitsSigned w128 c.args.b = c.ranges.b in
    let h : FitsSigned w128 c.multiply_unsigned.result = record { sfits = c.multiply_unsigned.type_inv } in
    let e = simp to_z-of_z at c.multiply_unsigned.ensures in
    simp to_z-of_z (ap Ok e ∙ sym (settled_unsigned c.args.kind (c.args.a *ℤ c.args.b) (sym c.is_signed.ensures ∙ c.if-is_signed.false)))

pub returns-else-is_signed-clause-fits : goal.returns-else-is_signed-clause-fits
returns-else-is_signed-clause-fits c =
    let h : FitsSigned w128 c.multiply_unsigned.result = record { sfits = c.multiply_unsigned.type_inv } in
    simp to_z-of_z (subst (λ (z : ℤ). fits c.args.kind z ≡ true) (sym c.multiply_unsigned.ensures) (value_fits c.args.kind _))
