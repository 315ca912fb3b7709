use Rattle.cl_typing.specs.Wrong.{init_fits}
use Rattle.cl_wrong.proofs.Parts.{part_missing, part_wrong, part_right}
use Rattle.cl_wrong.proofs.inits.+init.Goals as goal

pub members_fit-returns-in_default : goal.members_fit-returns-in_default
members_fit-returns-in_default t c =
    part_missing (init_fits c.args.tags.now c.args.names.now c.args.is_static) c.args.fields.now c.args.parts.now
    c.index-parts-i.result c.loop-i.i _ c.loop-i-test.true c.index-parts-i.is c.in_default.ensures c.loop-i.invariant

pub members_fit-returns-then-not-init_fits : goal.members_fit-returns-then-not-init_fits
members_fit-returns-then-not-init_fits t c =
    part_wrong (init_fits c.args.tags.now c.args.names.now c.args.is_static) c.args.fields.now c.args.parts.now
    c.index-parts-i.result c.loop-i.i c.in-Some.t.now _ c.loop-i-test.true c.index-parts-i.is c.in-Some.ensures
    c.if-not-init_fits.ensures c.loop-i.invariant

pub members_fit-loop-i-preserved : goal.members_fit-loop-i-preserved
members_fit-loop-i-preserved t c =
    part_right (init_fits c.args.tags.now c.args.names.now c.args.is_static) c.args.fields.now c.args.parts.now
    c.index-parts-i.result c.loop-i.i c.in-Some.t.now _ c.loop-i-test.true c.index-parts-i.is c.in-Some.ensures
    c.if-not-init_fits.ensures c.loop-i.invariant
