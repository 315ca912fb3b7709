use Rattle.std.proofs.Common.{sym}
use Rattle.cl_large.proofs.Known.{known_some, known_none}
use Rattle.cl_large.proofs.sizes.Sizes.of_tag.Goals as goal

pub returns-in-Some : goal.returns-in-Some
returns-in-Some c = known_some c.self.inside.structs.items c.self.inside.known c.args.self.now c.args.tag.now
    c.in-Some.size c.self.invariant c.self.view_is (sym c.in-Some.ensures)

pub returns-in-None : goal.returns-in-None
returns-in-None c = known_none c.self.inside.structs.items c.self.inside.known c.args.self.now c.args.tag.now
    c.self.invariant c.self.view_is (sym c.in-None.ensures)
