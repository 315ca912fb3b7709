use Rattle.std.proofs.Common.{rules, append_assoc}
use Rattle.cl_plain.proofs.Shapes.{binary_written, choice_written, cast_written, call_written, index_written, member_written, arrow_written, paren_written}
use Rattle.cl_plain.proofs.expressions.+spell.Goals as goal

pub write_expr_on-returns-in_ok-write_mark_at-in-Binary : goal.write_expr_on-returns-in_ok-write_mark_at-in-Binary
write_expr_on-returns-in_ok-write_mark_at-in-Binary t c =
    let e = binary_written c.args.lines c.args.e.now c.in-Binary.left c.in-Binary.right c.in-Binary.op c.in-Binary.is in rw e (search (rules, append_assoc))

pub write_expr_on-returns-in_ok-write_mark-in-Choice-2 : goal.write_expr_on-returns-in_ok-write_mark-in-Choice-2
write_expr_on-returns-in_ok-write_mark-in-Choice-2 t c =
    let e = choice_written c.args.lines c.args.e.now c.in-Choice.test c.in-Choice.first c.in-Choice.other c.in-Choice.is in rw e (search (rules, append_assoc))

pub write_expr_on-returns-in_ok-write_cast-in-Cast : goal.write_expr_on-returns-in_ok-write_cast-in-Cast
write_expr_on-returns-in_ok-write_cast-in-Cast t c =
    let e = cast_written c.args.lines c.args.e.now c.in-Cast.to c.in-Cast.inner c.in-Cast.is in rw e (search (rules, append_assoc))

pub write_expr_on-returns-in_ok-write_arguments-in-Call : goal.write_expr_on-returns-in_ok-write_arguments-in-Call
write_expr_on-returns-in_ok-write_arguments-in-Call t c =
    let e = call_written c.args.lines c.args.e.now c.in-Call.name c.in-Call.arguments c.in-Call.is in rw e (search (rules, append_assoc))

pub write_expr_on-returns-in_ok-write_expr-in-Index : goal.write_expr_on-returns-in_ok-write_expr-in-Index
write_expr_on-returns-in_ok-write_expr-in-Index t c =
    let e = index_written c.args.lines c.args.e.now c.in-Index.base c.in-Index.index c.in-Index.is in rw e (search (rules, append_assoc))

pub write_expr_on-returns-in_ok-write_mark-in-Member : goal.write_expr_on-returns-in_ok-write_mark-in-Member
write_expr_on-returns-in_ok-write_mark-in-Member t c =
    let e = member_written c.args.lines c.args.e.now c.in-Member.base c.in-Member.name c.in-Member.is in rw e (search (rules, append_assoc))

pub write_expr_on-returns-in_ok-write_mark_at-in-Arrow : goal.write_expr_on-returns-in_ok-write_mark_at-in-Arrow
write_expr_on-returns-in_ok-write_mark_at-in-Arrow t c =
    let e = arrow_written c.args.lines c.args.e.now c.in-Arrow.base c.in-Arrow.name c.in-Arrow.is in rw e (search (rules, append_assoc))

pub write_expr_on-returns-in_ok-write_expr-in-Paren : goal.write_expr_on-returns-in_ok-write_expr-in-Paren
write_expr_on-returns-in_ok-write_expr-in-Paren t c =
    let e = paren_written c.args.lines c.args.e.now c.in-Paren.inner c.in-Paren.is in rw e (search (rules, append_assoc))
