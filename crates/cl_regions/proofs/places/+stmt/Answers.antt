use Rattle.std.proofs.Common.{◌<◌, ◌≤◌, ◌-◌, ◌^◌, suc, [], map, drop, length, refl, sym, subst, arith}
use Rattle.std.proofs.lemmas.List.{length-map}
use Rattle.cl_typing.specs.Rules.{Lines}
use Rattle.cl_labelling.specs.Regions.{stmt_part, is_regular, bad_regions}
use Rattle.cl_scope.specs.Finds.{Finds}
use Rattle.cl_regions.proofs.Steps.{at_part, here_at, rest_at, next_at, none_left, front, behind, handed}
use Rattle.cl_regions.proofs.places.+stmt.Goals as goal

pub look_all-loop-s-init : goal.look_all-loop-s-init
look_all-loop-s-init t c = record {
  begun = [];
  few = omega arith;
  here = record { holds = c.new.ensures; ahead = c.in_ok-ahead.ensures };
  rest = refl;
}

pub look_all-loop-s-preserved : goal.look_all-loop-s-preserved
look_all-loop-s-preserved t c =
    let h : c.loop-s.s-index < length c.args.all.now = omega arith in
    let so = c.loop-s.invariant in
    let p = stmt_part c.s-item.result in
    let ps = map stmt_part c.args.all.now in
    let rest = drop (suc c.loop-s.s-index) ps in
    let whole = bad_regions [] ps in
    let e = at_part stmt_part c.args.all.now c.s-item.result c.loop-s.s-index h c.s-item.is in
    let here = here_at c.loop-s.walk ps p rest c.loop-s.s-index whole so e in
    let l : length so.begun ≤ c.loop-s.s-index = so.few in
    let small : length so.begun < 2 ^ 64 - 1 = omega arith in
    next_at c.loop-s.walk c.step.new.self ps p c.loop-s.s-index whole so e c.s-item.result.line c.stmt_role.ensures.line
    (c.in_ok-step.ensures.places so.begun p rest here (sym c.stmt_role.ensures.role)) c.in_ok-look_stmt.ensures
    (c.in_ok-step.ensures.here so.begun p rest here (sym c.stmt_role.ensures.role) small)

pub look_all-returns : goal.look_all-returns
look_all-returns t c = none_left c.loop-s.walk (map stmt_part c.args.all.now) c.loop-s.s-index _ c.loop-s.invariant
    (omega (arith, length-map c.args.all.now stmt_part))

pub look_all-returns-in_err-step : goal.look_all-returns-in_err-step
look_all-returns-in_err-step t c =
    let h : c.loop-s.s-index < length c.args.all.now = omega arith in
    let so = c.loop-s.invariant in
    let p = stmt_part c.s-item.result in
    let ps = map stmt_part c.args.all.now in
    let rest = drop (suc c.loop-s.s-index) ps in
    let whole = bad_regions [] ps in
    let e = at_part stmt_part c.args.all.now c.s-item.result c.loop-s.s-index h c.s-item.is in
    let here = here_at c.loop-s.walk ps p rest c.loop-s.s-index whole so e in
    subst (λ (ls : Lines). Finds c.from_residual-in_err-step.result ls)
    (rest_at c.loop-s.walk ps p rest c.loop-s.s-index whole so e)
    (handed c.from_residual-in_err-step.result _ _ c.from_residual-in_err-step.ensures.1
    (front c.in_err-step.field-0.0 (is_regular so.begun rest p.role) c.s-item.result.line p.line _ c.stmt_role.ensures.line
    (c.in_err-step.ensures.places so.begun p rest here (sym c.stmt_role.ensures.role))))

pub look_all-returns-in_err-look_stmt : goal.look_all-returns-in_err-look_stmt
look_all-returns-in_err-look_stmt t c =
    let h : c.loop-s.s-index < length c.args.all.now = omega arith in
    let so = c.loop-s.invariant in
    let p = stmt_part c.s-item.result in
    let ps = map stmt_part c.args.all.now in
    let rest = drop (suc c.loop-s.s-index) ps in
    let whole = bad_regions [] ps in
    let e = at_part stmt_part c.args.all.now c.s-item.result c.loop-s.s-index h c.s-item.is in
    let here = here_at c.loop-s.walk ps p rest c.loop-s.s-index whole so e in
    subst (λ (ls : Lines). Finds c.from_residual-in_err-look_stmt.result ls)
    (rest_at c.loop-s.walk ps p rest c.loop-s.s-index whole so e)
    (handed c.from_residual-in_err-look_stmt.result _ _ c.from_residual-in_err-look_stmt.ensures.1
    (behind c.in_err-look_stmt.field-0.0 (is_regular so.begun rest p.role) c.s-item.result.line p.line p.flaws _ c.stmt_role.ensures.line
    (c.in_ok-step.ensures.places so.begun p rest here (sym c.stmt_role.ensures.role)) c.in_err-look_stmt.ensures))
