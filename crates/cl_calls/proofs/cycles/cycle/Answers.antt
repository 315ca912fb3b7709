use Rattle.std.proofs.Common.{sym, ap, subst, slice_index_or, arith}
use Rattle.cl_calls.specs.Cycles.{Joins, Closes}
use Rattle.cl_calls.proofs.Circles.{at_first, one_call, stops, none_ever, no_call, no_default}
use Rattle.cl_calls.proofs.cycles.cycle.Goals as goal

pub loop-call-preserved : goal.loop-call-preserved
loop-call-preserved c =
    one_call c.args.levels.now c.args.crossings.now c.loop-call.call-index c.loop-call.pairs.edges.items c.loop-call.pairs.seen.items (slice_index_or c.args.crossings.now c.loop-call.call-index no_call) c.loop-call.invariant (omega arith)
    (no_default c.args.crossings.now c.loop-call.call-index no_call (omega arith))
    c.close.new.self.edges.items c.close.new.self.seen.items
    (subst (λ p. Joins c.loop-call.pairs.edges.items p c.close.new.self.edges.items) c.pair_of.ensures.levels (c.in_ok-close.ensures.joins c.if-branch.false)) (c.in_ok-close.ensures.seen c.if-branch.false)

pub returns-then-branch : goal.returns-then-branch
returns-then-branch c =
    stops c.args.levels.now c.args.crossings.now c.loop-call.call-index c.loop-call.pairs.edges.items c.loop-call.pairs.seen.items (slice_index_or c.args.crossings.now c.loop-call.call-index no_call) c.loop-call.invariant (omega arith)
    (no_default c.args.crossings.now c.loop-call.call-index no_call (omega arith))
    (subst (λ p. Closes c.loop-call.pairs.edges.items p) c.pair_of.ensures.levels (c.in_ok-close.ensures.closes c.if-branch.true))

pub returns : goal.returns
returns c = none_ever c.args.levels.now c.args.crossings.now c.loop-call.call-index c.loop-call.pairs.edges.items c.loop-call.pairs.seen.items c.loop-call.invariant (omega arith)
