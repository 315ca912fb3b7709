use Rattle.std.proofs.Common.{ℤ, ◌*ℤ◌, sym, ap, ◌∙◌, FitsSigned}
use Rattle.std.proofs.lemmas.Int.{to_z-of_z}
use mir.Syntax.{w128}
use Rattle.cl_tree.specs.Arithmetic.{settled}
use Rattle.cl_tree.proofs.Ranges.{count_few, count_cast, fits_size, shifted_size, shifted_left_is}
use Rattle.cl_tree.proofs.arithmetic.shift_left.Goals as goal

pub overflow_cast-count : goal.overflow_cast-count
overflow_cast-count c = count_cast c.args.kind _ (sym c.can_shift.ensures ∙ c.if-not-can_shift.false)

pub power-requires : goal.power-requires
power-requires c = count_few c.args.kind _ (sym c.can_shift.ensures ∙ c.if-not-can_shift.false)

pub overflow_mul-a : goal.overflow_mul-a
overflow_mul-a c =
    let f : FitsSigned w128 c.args.a = c.ranges.a in
    let g : FitsSigned w128 c.power.result = record { sfits = c.power.type_inv } in
    let few = count_few c.args.kind _ (sym c.can_shift.ensures ∙ c.if-not-can_shift.false) in
    simp to_z-of_z (shifted_size c.args.a c.power.result _ c.power.ensures few (fits_size c.args.kind c.args.a c.requires))

pub returns-clause-value : goal.returns-clause-value
returns-clause-value c =
    let f : FitsSigned w128 c.args.a = c.ranges.a in
    let g : FitsSigned w128 c.power.result = record { sfits = c.power.type_inv } in
    let i : FitsSigned w128 c.args.count = c.ranges.count in
    let few = count_few c.args.kind _ (sym c.can_shift.ensures ∙ c.if-not-can_shift.false) in
    let h : FitsSigned w128 (c.args.a *ℤ c.power.result) = shifted_size c.args.a c.power.result _ c.power.ensures few (fits_size c.args.kind c.args.a c.requires) in
    let e = simp to_z-of_z at c.settle.ensures.value in
    let p = simp to_z-of_z at c.power.ensures in
    let can = simp to_z-of_z at (sym c.can_shift.ensures ∙ c.if-not-can_shift.false) in
    let not_below = simp to_z-of_z at c.if-a-lt0.false in
    e ∙ ap (λ (z : ℤ). settled c.args.kind (c.args.a *ℤ z)) p ∙ sym (shifted_left_is c.args.kind c.args.a c.args.count can not_below)
