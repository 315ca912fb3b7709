use Rattle.std.proofs.Common.{◌≡◌, ◌<◌, ◌≤◌, length, Some, None, sym, ◌∙◌, arith}
use Rattle.serde_json.specs.View.{view}
use Rattle.cl_labelling.specs.Text.{taints_in}
use Rattle.cle_text.proofs.Each.{step_one, stop_none, all_done}
use Rattle.cle_text.proofs.taints.each_taints.Goals as goal

pub returns-in-None : goal.returns-in-None
returns-in-None c =
    let h : c.loop-entry.entry-index < length c.args.entries.now = omega arith in
    let e : taints_in (view c.entry-item.result) ≡ None = sym c.in_ok-given.ensures ∙ c.in-None.is in
    stop_none (taints_in) view c.args.entries.now c.entry-item.result c.loop-entry.entry-index c.loop-entry.found.items _ h c.entry-item.is e c.loop-entry.invariant

pub loop-entry-preserved : goal.loop-entry-preserved
loop-entry-preserved c =
    let h : c.loop-entry.entry-index < length c.args.entries.now = omega arith in
    let e : taints_in (view c.entry-item.result) ≡ Some c.in-Some.taints = sym c.in_ok-given.ensures ∙ c.in-Some.is in
    step_one (taints_in) view c.args.entries.now c.entry-item.result c.loop-entry.entry-index c.loop-entry.found.items c.push.new.self.items
    c.in-Some.taints _ h c.entry-item.is e c.in_ok-push-in-Some.ensures.items c.loop-entry.invariant

pub returns : goal.returns
returns c =
    let h : length c.args.entries.now ≤ c.loop-entry.entry-index = omega arith in
    all_done (taints_in) view c.args.entries.now c.loop-entry.entry-index c.loop-entry.found.items _ h c.loop-entry.invariant
