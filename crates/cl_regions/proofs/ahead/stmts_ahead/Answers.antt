use Rattle.std.proofs.Common.{◌≡◌, ◌<◌, ◌-◌, List, map, drop, length, reverse, sym, ap, ◌∙◌, subst, arith}
use Rattle.cl_tree.specs.declared.tree.Stmt.{Stmt}
use Rattle.cl_labelling.specs.Regions.{stmt_part}
use Rattle.cl_regions.specs.Ahead.{all_ahead}
use Rattle.cl_regions.specs.Walks.{IsAhead}
use Rattle.cl_regions.proofs.Aheads.{back_step, back_length, drop_start, drop_end}
use Rattle.cl_regions.proofs.ahead.stmts_ahead.Goals as goal

pub loop-i-init : goal.loop-i-init
loop-i-init c = subst (λ (xs : List Stmt). IsAhead c.new-ahead.result (map stmt_part xs)) (sym (drop_start c.args.ss.now))
    c.new-ahead.ensures

pub loop-i-preserved : goal.loop-i-preserved
loop-i-preserved c =
    let h : c.loop-i.i < length c.args.ss.now = omega arith in
    let n : length (map stmt_part (drop (length c.args.ss.now - c.loop-i.i) c.args.ss.now)) ≡ c.loop-i.i =
    back_length stmt_part c.args.ss.now c.loop-i.i (omega arith) in
    subst (λ (xs : List Stmt). IsAhead c.note.new.self (map stmt_part xs))
    (sym (back_step c.args.ss.now c.index-ss-ss.result c.loop-i.i h c.index-ss-ss.is))
    (c.in_ok-note.ensures (stmt_part c.index-ss-ss.result)
    (map stmt_part (drop (length c.args.ss.now - c.loop-i.i) c.args.ss.now)) c.loop-i.invariant
    (sym c.stmt_role.ensures.role) (omega arith))

pub returns : goal.returns
returns c = c.loop-i.invariant.regular
    ∙ ap (λ (xs : List Stmt). reverse (all_ahead (map stmt_part xs))) (drop_end c.args.ss.now c.loop-i.i (omega arith))
