use Rattle.std.proofs.Common.{◌≡◌, ◌<◌, ◌≤◌, length, Some, None, sym, ap, ◌∙◌, arith}
use Rattle.serde_json.specs.View.{view}
use Rattle.serde_json.specs.Find.{as_str}
use Rattle.cle_text.proofs.Each.{step_one, stop_none, all_done}
use Rattle.cle_text.proofs.parts.each_text.Goals as goal

pub returns-in-None : goal.returns-in-None
returns-in-None c =
    let h : c.loop-part.part-index < length c.args.parts.now = omega arith in
    let e : as_str (view c.part-item.result) ≡ None = sym c.in-None.ensures in
    stop_none (as_str) view c.args.parts.now c.part-item.result c.loop-part.part-index c.loop-part.found _ h c.part-item.is e c.loop-part.invariant

pub loop-part-preserved : goal.loop-part-preserved
loop-part-preserved c =
    let h : c.loop-part.part-index < length c.args.parts.now = omega arith in
    let e : as_str (view c.part-item.result) ≡ Some c.in_ok-of-in-Some.field-0 = sym c.in-Some.ensures ∙ ap Some (sym c.in_ok-of-in-Some.ensures) in
    step_one (as_str) view c.args.parts.now c.part-item.result c.loop-part.part-index c.loop-part.found c.push.new.self
    c.in_ok-of-in-Some.field-0 _ h c.part-item.is e c.in_ok-push-in-Some.ensures.ok c.loop-part.invariant

pub returns : goal.returns
returns c =
    let h : length c.args.parts.now ≤ c.loop-part.part-index = omega arith in
    all_done (as_str) view c.args.parts.now c.loop-part.part-index c.loop-part.found _ h c.loop-part.invariant
