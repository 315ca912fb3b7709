use Rattle.std.proofs.Common.{◌<◌, ◌≤◌, ◌-◌, ◌^◌, suc, [], map, drop, length, refl, sym, subst, arith}
use Rattle.std.proofs.lemmas.List.{length-map}
use Rattle.cl_typing.specs.Rules.{Lines}
use Rattle.cl_labelling.specs.Regions.{item_part, is_regular, bad_regions}
use Rattle.cl_scope.specs.Finds.{Finds}
use Rattle.cl_regions.proofs.Steps.{at_part, here_at, rest_at, next_at, none_left, front, behind, handed}
use Rattle.cl_regions.proofs.places.look_items.Goals as goal

pub loop-item-init : goal.loop-item-init
loop-item-init c = record {
  begun = [];
  few = omega arith;
  here = record { holds = c.new.ensures; ahead = c.in_ok-ahead.ensures };
  rest = refl;
}

pub loop-item-preserved : goal.loop-item-preserved
loop-item-preserved c =
    let h : c.loop-item.item-index < length c.args.items.now = omega arith in
    let so = c.loop-item.invariant in
    let p = item_part c.item-item.result in
    let ps = map item_part c.args.items.now in
    let rest = drop (suc c.loop-item.item-index) ps in
    let whole = bad_regions [] ps in
    let e = at_part item_part c.args.items.now c.item-item.result c.loop-item.item-index h c.item-item.is in
    let here = here_at c.loop-item.walk ps p rest c.loop-item.item-index whole so e in
    let l : length so.begun ≤ c.loop-item.item-index = so.few in
    let small : length so.begun < 2 ^ 64 - 1 = omega arith in
    next_at c.loop-item.walk c.step.new.self ps p c.loop-item.item-index whole so e c.item_line.result (sym c.item_line.ensures)
    (c.in_ok-step.ensures.places so.begun p rest here (sym c.item_role.ensures)) c.in_ok-look_item.ensures
    (c.in_ok-step.ensures.here so.begun p rest here (sym c.item_role.ensures) small)

pub returns : goal.returns
returns c = none_left c.loop-item.walk (map item_part c.args.items.now) c.loop-item.item-index _ c.loop-item.invariant
    (omega (arith, length-map c.args.items.now item_part))

pub returns-in_err-step : goal.returns-in_err-step
returns-in_err-step c =
    let h : c.loop-item.item-index < length c.args.items.now = omega arith in
    let so = c.loop-item.invariant in
    let p = item_part c.item-item.result in
    let ps = map item_part c.args.items.now in
    let rest = drop (suc c.loop-item.item-index) ps in
    let whole = bad_regions [] ps in
    let e = at_part item_part c.args.items.now c.item-item.result c.loop-item.item-index h c.item-item.is in
    let here = here_at c.loop-item.walk ps p rest c.loop-item.item-index whole so e in
    subst (λ (ls : Lines). Finds c.from_residual-in_err-step.result ls)
    (rest_at c.loop-item.walk ps p rest c.loop-item.item-index whole so e)
    (handed c.from_residual-in_err-step.result _ _ c.from_residual-in_err-step.ensures.1
    (front c.in_err-step.field-0.0 (is_regular so.begun rest p.role) c.item_line.result p.line _ (sym c.item_line.ensures)
    (c.in_err-step.ensures.places so.begun p rest here (sym c.item_role.ensures))))

pub returns-in_err-look_item : goal.returns-in_err-look_item
returns-in_err-look_item c =
    let h : c.loop-item.item-index < length c.args.items.now = omega arith in
    let so = c.loop-item.invariant in
    let p = item_part c.item-item.result in
    let ps = map item_part c.args.items.now in
    let rest = drop (suc c.loop-item.item-index) ps in
    let whole = bad_regions [] ps in
    let e = at_part item_part c.args.items.now c.item-item.result c.loop-item.item-index h c.item-item.is in
    let here = here_at c.loop-item.walk ps p rest c.loop-item.item-index whole so e in
    subst (λ (ls : Lines). Finds c.from_residual-in_err-look_item.result ls)
    (rest_at c.loop-item.walk ps p rest c.loop-item.item-index whole so e)
    (handed c.from_residual-in_err-look_item.result _ _ c.from_residual-in_err-look_item.ensures.1
    (behind c.in_err-look_item.field-0.0 (is_regular so.begun rest p.role) c.item_line.result p.line p.flaws _ (sym c.item_line.ensures)
    (c.in_ok-step.ensures.places so.begun p rest here (sym c.item_role.ensures)) c.in_err-look_item.ensures))
