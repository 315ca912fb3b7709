use Rattle.std.proofs.Common.{rules, append_assoc}
use Rattle.cl_plain.proofs.StatementParts.{if_spelling, while_spelling, do_spelling, for_spelling, return_spelling, break_spelling, continue_spelling}
use Rattle.cl_plain.proofs.statements.+spell.Goals as goal

pub write_stmt-returns-in_ok-write_stmt-in-If : goal.write_stmt-returns-in_ok-write_stmt-in-If
write_stmt-returns-in_ok-write_stmt-in-If t c =
    let e = if_spelling c.args.s.now c.in-If.test c.in-If.first c.in-If.other c.in-If.is in rw e (search (rules, append_assoc))

pub write_stmt-returns-in_ok-write_test-in-While : goal.write_stmt-returns-in_ok-write_test-in-While
write_stmt-returns-in_ok-write_test-in-While t c =
    let e = while_spelling c.args.s.now c.in-While.test c.in-While.body c.in-While.is in rw e (search (rules, append_assoc))

pub write_stmt-returns-in_ok-write_test-in-DoWhile : goal.write_stmt-returns-in_ok-write_test-in-DoWhile
write_stmt-returns-in_ok-write_test-in-DoWhile t c =
    let e = do_spelling c.args.s.now c.in-DoWhile.body c.in-DoWhile.test c.in-DoWhile.is in rw e (search (rules, append_assoc))

pub write_stmt-returns-in_ok-write_mark-in-For-3 : goal.write_stmt-returns-in_ok-write_mark-in-For-3
write_stmt-returns-in_ok-write_mark-in-For-3 t c =
    let e = for_spelling c.args.s.now c.in-For.first c.in-For.test c.in-For.next c.in-For.body c.in-For.is in rw e (search (rules, append_assoc))

pub write_stmt-returns-in_ok-write_maybe_expr-in-Return : goal.write_stmt-returns-in_ok-write_maybe_expr-in-Return
write_stmt-returns-in_ok-write_maybe_expr-in-Return t c =
    let e = return_spelling c.args.s.now c.in-Return.e c.in-Return.is in rw e (search (rules, append_assoc))

pub write_stmt-returns-in_ok-write_begin-in-Break : goal.write_stmt-returns-in_ok-write_begin-in-Break
write_stmt-returns-in_ok-write_begin-in-Break t c =
    let e = break_spelling c.args.s.now c.in-Break.is in rw e (search (rules, append_assoc))

pub write_stmt-returns-in_ok-write_begin-in-Continue : goal.write_stmt-returns-in_ok-write_begin-in-Continue
write_stmt-returns-in_ok-write_begin-in-Continue t c =
    let e = continue_spelling c.args.s.now c.in-Continue.is in rw e (search (rules, append_assoc))
