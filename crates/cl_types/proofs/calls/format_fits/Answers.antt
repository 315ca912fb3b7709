use Rattle.std.proofs.Common.{refl, drop}
use Rattle.cl_types.specs.Views.{fits_from}
use Rattle.cl_types.proofs.Formats.{stops, end_text, end_inside, no_end}
use Rattle.cl_types.proofs.calls.format_fits.Goals as goal

pub returns-in_default : goal.returns-in_default
unfolding fits_from
returns-in_default c =
    stops c.args.tags.now c.args.names.now c.loop-b.part c.args.format.now c.loop-b.b-index
    (drop c.loop-b.taken c.args.arguments.now) _ c.loop-b-test.true (c.in_default.ensures.none refl)
    c.loop-b.invariant.rest

pub returns-in-Text : goal.returns-in-Text
unfolding fits_from
returns-in-Text c =
    end_text c.args.tags.now c.args.names.now c.loop-b.part c.args.arguments.now c.args.format.now c.loop-b.b-index
    c.loop-b.taken _ c.in-Text.is c.loop-b-test.false c.loop-b.invariant.within c.loop-b.invariant.rest

pub returns-in-Percent : goal.returns-in-Percent
unfolding fits_from
returns-in-Percent c =
    end_inside c.args.tags.now c.args.names.now c.loop-b.part (drop c.loop-b.taken c.args.arguments.now)
    c.args.format.now c.loop-b.b-index _ (no_end c.loop-b.part c.in-Percent.is) c.loop-b-test.false
    c.loop-b.invariant.rest
