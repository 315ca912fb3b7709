use Rattle.std.proofs.Common.{◌≡◌, ◌<◌, ◌≤◌, length, Some, None, sym, ◌∙◌, arith}
use Rattle.serde_json.specs.View.{view}
use Rattle.guard_rules.specs.Text.{field_in}
use Rattle.guard_rules.proofs.Each.{step_one, stop_none, all_done}
use Rattle.guard_rules.proofs.text.each_field.Goals as goal

pub returns-in-None : goal.returns-in-None
returns-in-None c =
    let h : c.loop-part.part-index < length c.args.parts.now = omega arith in
    let e : field_in (view c.part-item.result) ≡ None = sym c.in_ok-field.ensures ∙ c.in-None.is in
    stop_none (field_in) view c.args.parts.now c.part-item.result c.loop-part.part-index c.loop-part.found _ h c.part-item.is e c.loop-part.invariant

pub loop-part-preserved : goal.loop-part-preserved
loop-part-preserved c =
    let h : c.loop-part.part-index < length c.args.parts.now = omega arith in
    let e : field_in (view c.part-item.result) ≡ Some c.in-Some.field = sym c.in_ok-field.ensures ∙ c.in-Some.is in
    step_one (field_in) view c.args.parts.now c.part-item.result c.loop-part.part-index c.loop-part.found c.push.new.self
    c.in-Some.field _ h c.part-item.is e c.in_ok-push-in-Some.ensures.ok c.loop-part.invariant

pub returns : goal.returns
returns c =
    let h : length c.args.parts.now ≤ c.loop-part.part-index = omega arith in
    all_done (field_in) view c.args.parts.now c.loop-part.part-index c.loop-part.found _ h c.loop-part.invariant
