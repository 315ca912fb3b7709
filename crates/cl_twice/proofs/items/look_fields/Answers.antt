use Rattle.std.proofs.Common.{◌<◌, length, arith}
use Rattle.cl_twice.proofs.Steps.{known_step, fields_step, entered_step}
use Rattle.cl_twice.proofs.items.look_fields.Goals as goal

pub loop-d-preserved : goal.loop-d-preserved
loop-d-preserved c =
    let h : c.loop-d.d-index < length c.args.ds.now = omega arith in
    record {
      rest = fields_step c.args.start c.args.ds.now c.d-item.result c.loop-d.d-index c.loop-d.fields
          c.look_field.new.fields _ h c.d-item.is c.loop-d.invariant.entered c.in_ok-look_field.ensures.places
          c.in_ok-look_field.ensures.fields c.loop-d.invariant.rest;
      fields = known_step c.args.ds.now c.d-item.result c.loop-d.d-index c.loop-d.fields c.look_field.new.fields _ h
          c.d-item.is c.in_ok-look_field.ensures.fields c.loop-d.invariant.fields;
      entered = entered_step c.args.start c.d-item.result c.loop-d.fields c.look_field.new.fields
          c.loop-d.invariant.entered c.in_ok-look_field.ensures.fields;
    }
