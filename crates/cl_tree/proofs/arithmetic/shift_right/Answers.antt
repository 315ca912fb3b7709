use Rattle.std.proofs.Common.{◌≡◌, ℤ, true, sym, ap, subst, ◌∙◌, FitsSigned}
use Rattle.std.specs.Int.{int_div_euclid}
use Rattle.std.proofs.lemmas.Int.{to_z-of_z}
use mir.Syntax.{w128}
use Rattle.cl_tree.specs.Arithmetic.{fits}
use Rattle.cl_tree.proofs.Ranges.{count_few, count_cast, floor_fits}
use Rattle.cl_tree.proofs.arithmetic.shift_right.Goals as goal

pub overflow_cast-count : goal.overflow_cast-count
overflow_cast-count c = count_cast c.args.kind _ (sym c.can_shift.ensures ∙ c.if-not-can_shift.false)

pub power-requires : goal.power-requires
power-requires c = count_few c.args.kind _ (sym c.can_shift.ensures ∙ c.if-not-can_shift.false)

pub returns-clause-fits : goal.returns-clause-fits
returns-clause-fits c =
    let f : FitsSigned w128 c.args.a = c.ranges.a in
    let g : FitsSigned w128 c.power.result = record { sfits = c.power.type_inv } in
    let h : FitsSigned w128 c.div_euclid.result = record { sfits = c.div_euclid.type_inv } in
    let e = simp to_z-of_z at c.div_euclid.ensures in
    simp to_z-of_z (subst (λ (z : ℤ). fits c.args.kind z ≡ true) (sym (e ∙ ap (int_div_euclid c.args.a) c.power.ensures)) (floor_fits c.args.kind c.args.a _ c.requires))
