use Rattle.std.proofs.Common.{◌≡◌, ◌++◌, ◌<◌, arith, length}
use Rattle.cle_ways.proofs.Parts.{on_ok, read_is, used_is, argument_is, printed_is, arguments_step}
use Rattle.cle_ways.specs.Ways.{gist}
use Rattle.cle_ways.proofs.exprs.+gist.Goals as goal

pub look_argument-returns : goal.look_argument-returns
look_argument-returns t c =
    let l = c.args.program.now in let ks = c.args.spot.now.known in
    let slice = read_is c.new-origins.result.items c.look.new.origins.items c.as_slice.result.now (gist l c.args.f ks c.args.e.now).origins
    c.new-origins.ensures.items c.in_ok-look.ensures.origins c.as_slice.ensures.value in
    let again = read_is c.new-origins.result.items c.look.new.origins.items c.as_slice-2.result.now (gist l c.args.f ks c.args.e.now).origins
    c.new-origins.ensures.items c.in_ok-look.ensures.origins c.as_slice-2.ensures.value in
    let used = used_is l c.args.f ks c.args.e.now c.args.notes.now.items c.look.new.notes.items c.note_in_body.new.notes.items c.as_slice.result.now
    c.in_ok-look.ensures.notes slice c.in_ok-note_in_body.ensures in
    on_ok c.move_argument.result _ _
    (argument_is l c.args.f ks c.args.callee c.args.line c.args.k c.args.e.now c.args.notes.now.items c.note_in_body.new.notes.items c.move_argument.new.notes.items
    c.as_slice-2.result.now c.root_of-root.result used again c.root_of-root.ensures) c.move_argument.ensures

pub look_arguments-loop-k-preserved : goal.look_arguments-loop-k-preserved
look_arguments-loop-k-preserved t c =
    let h : c.loop-k.k < length c.args.all.now = omega arith in
    arguments_step c.args.program.now c.args.f c.args.spot.now.known c.args.callee c.args.line c.loop-k.k c.args.all.now c.index-all-k.result
    c.loop-k.notes.items c.look_argument.new.notes.items _ h c.index-all-k.is c.in_ok-look_argument.ensures c.loop-k.invariant

pub look_print-returns : goal.look_print-returns
look_print-returns t c =
    let l = c.args.program.now in let ks = c.args.spot.now.known in
    let slice = read_is c.new-origins.result.items c.look.new.origins.items c.as_slice.result.now (gist l c.args.f ks c.args.e.now).origins
    c.new-origins.ensures.items c.in_ok-look.ensures.origins c.as_slice.ensures.value in
    let again = read_is c.new-origins.result.items c.look.new.origins.items c.as_slice-2.result.now (gist l c.args.f ks c.args.e.now).origins
    c.new-origins.ensures.items c.in_ok-look.ensures.origins c.as_slice-2.ensures.value in
    let used = used_is l c.args.f ks c.args.e.now c.args.notes.now.items c.look.new.notes.items c.note_in_body.new.notes.items c.as_slice.result.now
    c.in_ok-look.ensures.notes slice c.in_ok-note_in_body.ensures in
    on_ok c.put_bound.result _ _
    (printed_is l c.args.f ks c.args.line c.args.e.now c.args.notes.now.items c.note_in_body.new.notes.items c.put_bound.new.notes.items
    c.as_slice-2.result.now c.level.result used again c.level.ensures) c.put_bound.ensures
