use Rattle.std.proofs.Common.{◌<◌, ◌≤◌, ◌-◌, ◌^◌, [], ◌++◌, map, length, refl, sym, ap, ◌∙◌, subst, arith, ℕ}
use Rattle.std.proofs.lemmas.List.{length-map}
use Rattle.cl_labelling.specs.Regions.{item_part, Role, itself, open_after, waiting_after}
use Rattle.cl_regions.specs.Marks.{all_kept, kept_all, IsAround}
use Rattle.cl_regions.proofs.Steps.{at_part}
use Rattle.cl_regions.proofs.Marking.{marks_next, marks_end}
use Rattle.cl_regions.proofs.marks.mark_items.Goals as goal

pub loop-item-init : goal.loop-item-init
loop-item-init c = record { begun = []; waiting = []; few = omega arith; here = c.new-around.ensures; rest = refl }

pub loop-item-preserved : goal.loop-item-preserved
loop-item-preserved c =
    let h : c.loop-item.item-index < length c.args.items.now = omega arith in
    let so = c.loop-item.invariant in
    let p = item_part c.item-item.result in
    let ps = map item_part c.args.items.now in
    let ws = so.waiting ++ so.begun in
    let e = at_part item_part c.args.items.now c.item-item.result c.loop-item.item-index h c.item-item.is in
    let l : length so.begun ≤ c.loop-item.item-index = so.few in
    let small : length so.begun < 2 ^ 64 - 1 = omega arith in
    marks_next c.loop-item.around c.pass.new.self c.loop-item.marks.items c.mark_itself.new.marks.items
    c.mark_inner.new.marks.items ps p c.loop-item.item-index _ so e
    (c.in_ok-mark_itself.ensures ws (c.labels.ensures so.begun so.waiting so.here)
    ∙ ap (λ (r : Role). kept_all c.loop-item.marks.items ++ all_kept (itself r c.item_line.result ws)) c.item_role-role.ensures
    ∙ ap (λ (n : ℕ). kept_all c.loop-item.marks.items ++ all_kept (itself p.role n ws)) (sym (sym c.item_line.ensures)))
    c.in_ok-mark_inner.ensures
    (subst (λ (r : Role). IsAround c.pass.new.self (open_after so.begun r) (waiting_after so.waiting r)) c.item_role-role.ensures
    (c.in_ok-pass.ensures so.begun so.waiting so.here small))

pub returns : goal.returns
returns c = marks_end c.loop-item.around c.loop-item.marks.items (map item_part c.args.items.now) c.loop-item.item-index _
    c.loop-item.invariant (omega (arith, length-map c.args.items.now item_part))
