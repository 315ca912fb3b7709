use Rattle.std.proofs.Common.{◌<◌, length, sym, subst, arith}
use Rattle.cl_typing.specs.Scope.{Env}
use Rattle.cl_typing.specs.Wrong.{stmt_wrong}
use Rattle.cl_scope.specs.Behind.{Extends}
use Rattle.cl_scope.proofs.Behind.{extends_names}
use Rattle.cl_wrong.specs.Inside.{inside_of}
use Rattle.cl_wrong.proofs.Heads.{order_step}
use Rattle.cl_wrong.proofs.stmts.+stmt.Goals as goal

pub look_block-loop-s-preserved : goal.look_block-loop-s-preserved
look_block-loop-s-preserved t c =
    let h : c.loop-s.s-index < length c.args.all.now = omega arith in
    record {
      rest = order_step (stmt_wrong (inside_of c.args.inside.now)) c.args.loops c.args.all.now c.s-item.result
          c.loop-s.s-index c.loop-s.names c.look_stmt.new.names _ h c.s-item.is c.in_ok-look_stmt.ensures.places
          c.in_ok-look_stmt.ensures.names c.loop-s.invariant.rest;
      base = subst (λ (e : Env). Extends c.args.names.now e) (sym c.in_ok-look_stmt.ensures.names)
          (extends_names (stmt_wrong (inside_of c.args.inside.now) c.s-item.result).declares c.args.names.now
          c.loop-s.names c.loop-s.invariant.base);
    }
