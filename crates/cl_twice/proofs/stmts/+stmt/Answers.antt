use Rattle.std.proofs.Common.{◌<◌, ◌≤◌, length, sym, subst, ap, ◌∙◌, arith}
use Rattle.cl_typing.specs.Scope.{Env}
use Rattle.cl_typing.specs.Twice.{stmt_twice}
use Rattle.cl_scope.specs.Table.{since}
use Rattle.cl_scope.specs.Behind.{Extends}
use Rattle.cl_scope.proofs.Behind.{extends_names, order_step, since_names}
use Rattle.cl_twice.proofs.stmts.+stmt.Goals as goal

pub look_all-loop-s-preserved : goal.look_all-loop-s-preserved
look_all-loop-s-preserved t c =
    let h : c.loop-s.s-index < length c.args.all.now = omega arith in
    let l : length c.args.names.now ≤ length c.loop-s.names = c.loop-s.invariant.base.longer in
    let e : c.args.start ≤ length c.loop-s.names = omega arith in
    let ds = (stmt_twice c.s-item.result).declares in
    record {
      rest = order_step stmt_twice c.args.all.now c.s-item.result c.loop-s.s-index (since c.args.start c.loop-s.names)
          (since c.args.start c.look_stmt.new.names) _ h c.s-item.is c.in_ok-look_stmt.ensures.places
          (ap (since c.args.start) c.in_ok-look_stmt.ensures.names ∙ since_names c.args.start ds c.loop-s.names e)
          c.loop-s.invariant.rest;
      base = subst (λ (e : Env). Extends c.args.names.now e) (sym c.in_ok-look_stmt.ensures.names)
          (extends_names ds c.args.names.now c.loop-s.names c.loop-s.invariant.base);
    }
