use Rattle.cle_ways.proofs.Parts.{read_is, used_is}
use Rattle.cle_ways.specs.Ways.{gist}
use Rattle.cle_ways.proofs.places.look_origins.Goals as goal

pub returns-clause-notes : goal.returns-clause-notes
returns-clause-notes c =
    let slice = read_is c.new-origins.result.items c.look.new.origins.items c.as_slice.result.now (gist c.args.program.now c.args.f c.args.spot.now.known c.args.e.now).origins
    c.new-origins.ensures.items c.in_ok-look.ensures.origins c.as_slice.ensures.value in
    used_is c.args.program.now c.args.f c.args.spot.now.known c.args.e.now c.args.notes.now.items c.look.new.notes.items c.note_in_body.new.notes.items c.as_slice.result.now
    c.in_ok-look.ensures.notes slice c.in_ok-note_in_body.ensures
