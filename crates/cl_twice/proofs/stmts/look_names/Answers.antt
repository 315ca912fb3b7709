use Rattle.std.proofs.Common.{◌<◌, length, arith}
use Rattle.cl_twice.proofs.Steps.{known_step, names_step, entered_step}
use Rattle.cl_twice.proofs.stmts.look_names.Goals as goal

pub loop-d-preserved : goal.loop-d-preserved
loop-d-preserved c =
    let h : c.loop-d.d-index < length c.args.ds.now = omega arith in
    record {
      rest = names_step c.args.start c.args.ds.now c.d-item.result c.loop-d.d-index c.loop-d.names c.look_name.new.names
          _ h c.d-item.is c.loop-d.invariant.entered c.in_ok-look_name.ensures.places c.in_ok-look_name.ensures.names
          c.loop-d.invariant.rest;
      names = known_step c.args.ds.now c.d-item.result c.loop-d.d-index c.loop-d.names c.look_name.new.names _ h
          c.d-item.is c.in_ok-look_name.ensures.names c.loop-d.invariant.names;
      entered = entered_step c.args.start c.d-item.result c.loop-d.names c.look_name.new.names
          c.loop-d.invariant.entered c.in_ok-look_name.ensures.names;
    }
