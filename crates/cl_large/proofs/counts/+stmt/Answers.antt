use Rattle.std.proofs.Common.{◌<◌, length, arith, subst}
use Rattle.cl_typing.specs.Rules.{Lines}
use Rattle.cl_typing.specs.Sizes.{stmt_counted}
use Rattle.cl_scope.specs.Finds.{Finds}
use Rattle.cl_scope.proofs.Searches.{begins_front}
use Rattle.cl_large.proofs.Overs.{over_here, over_next, after_next}
use Rattle.cl_large.proofs.counts.+stmt.Goals as goal

pub count_all-returns-in_err-count_stmt-clause-places : goal.count_all-returns-in_err-count_stmt-clause-places
count_all-returns-in_err-count_stmt-clause-places t c =
    let h : c.loop-s.s-index < length c.args.all.now = omega arith in
    subst (λ (ls : Lines). Finds c.from_residual.result ls) (over_here (stmt_counted c.args.sizes.now) c.args.all.now
    c.s-item.result c.loop-s.s-index c.loop-s.totals _ h c.s-item.is c.loop-s.invariant.rest) (grind (arith, begins_front))

pub count_all-loop-s-preserved : goal.count_all-loop-s-preserved
count_all-loop-s-preserved t c =
    let h : c.loop-s.s-index < length c.args.all.now = omega arith in
    record {
      rest = over_next (stmt_counted c.args.sizes.now) c.args.all.now c.s-item.result c.loop-s.s-index c.loop-s.totals
          c.count_stmt.new.totals _ h c.s-item.is c.in_ok-count_stmt.ensures.places c.in_ok-count_stmt.ensures.totals
          c.loop-s.invariant.rest;
      totals = after_next (stmt_counted c.args.sizes.now) c.args.all.now c.s-item.result c.loop-s.s-index
          c.loop-s.totals c.count_stmt.new.totals _ h c.s-item.is c.in_ok-count_stmt.ensures.totals
          c.loop-s.invariant.totals;
    }
