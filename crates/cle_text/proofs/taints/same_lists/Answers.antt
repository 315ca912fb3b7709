use Rattle.std.proofs.Common.{◌≤◌, length, sym, ◌∙◌, arith}
use Rattle.cle_text.proofs.Same.{same_end}
use Rattle.cle_text.proofs.taints.same_lists.Goals as goal

pub returns : goal.returns
returns c =
    let h : length c.args.some.now ≤ c.loop-at.at = omega arith in
    let j : c.loop-at.at ≤ length c.args.some.now = omega arith in
    sym (same_end c.args.some.now c.args.others.now c.loop-at.at h j c.loop-at.invariant.within)
    ∙ c.loop-at.invariant.rest
