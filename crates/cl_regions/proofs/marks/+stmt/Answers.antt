use Rattle.std.proofs.Common.{◌<◌, ◌≤◌, ◌-◌, ◌^◌, [], ◌++◌, map, length, refl, sym, ap, ◌∙◌, subst, arith, ℕ}
use Rattle.std.proofs.lemmas.List.{length-map}
use Rattle.cl_labelling.specs.Regions.{stmt_part, Role, itself, open_after, waiting_after}
use Rattle.cl_regions.specs.Marks.{all_kept, kept_all, IsAround}
use Rattle.cl_regions.proofs.Steps.{at_part}
use Rattle.cl_regions.proofs.Marking.{marks_next, marks_end}
use Rattle.cl_regions.proofs.marks.+stmt.Goals as goal

pub mark_all-loop-s-init : goal.mark_all-loop-s-init
mark_all-loop-s-init t c = record { begun = []; waiting = []; few = omega arith; here = c.new-around.ensures; rest = refl }

pub mark_all-loop-s-preserved : goal.mark_all-loop-s-preserved
mark_all-loop-s-preserved t c =
    let h : c.loop-s.s-index < length c.args.all.now = omega arith in
    let so = c.loop-s.invariant in
    let p = stmt_part c.s-item.result in
    let ps = map stmt_part c.args.all.now in
    let ws = so.waiting ++ so.begun in
    let e = at_part stmt_part c.args.all.now c.s-item.result c.loop-s.s-index h c.s-item.is in
    let l : length so.begun ≤ c.loop-s.s-index = so.few in
    let small : length so.begun < 2 ^ 64 - 1 = omega arith in
    marks_next c.loop-s.around c.pass.new.self c.loop-s.marks.items c.mark_itself.new.marks.items
    c.mark_within.new.marks.items ps p c.loop-s.s-index _ so e
    (c.in_ok-mark_itself.ensures ws (c.labels.ensures so.begun so.waiting so.here)
    ∙ ap (λ (r : Role). kept_all c.loop-s.marks.items ++ all_kept (itself r c.s-item.result.line ws)) c.stmt_role-role.ensures.role
    ∙ ap (λ (n : ℕ). kept_all c.loop-s.marks.items ++ all_kept (itself p.role n ws)) (sym c.stmt_role-role.ensures.line))
    c.in_ok-mark_within.ensures
    (subst (λ (r : Role). IsAround c.pass.new.self (open_after so.begun r) (waiting_after so.waiting r)) c.stmt_role-role.ensures.role
    (c.in_ok-pass.ensures so.begun so.waiting so.here small))

pub mark_all-returns : goal.mark_all-returns
mark_all-returns t c = marks_end c.loop-s.around c.loop-s.marks.items (map stmt_part c.args.all.now) c.loop-s.s-index _
    c.loop-s.invariant (omega (arith, length-map c.args.all.now stmt_part))
