use Rattle.std.proofs.Common.{sym, ◌∙◌}
use Rattle.cl_members.proofs.Members.{member_found, member_missing}
use Rattle.cl_members.proofs.fields.Fields.find.Goals as goal

pub returns-in-Some : goal.returns-in-Some
returns-in-Some c =
    c.get-in-Some.ensures
    ∙ member_found c.self.inside.fields.items c.self.inside.first c.args.self.now c.args.name.now c.in-Some.place
    c.self.invariant c.self.view_is (sym c.in-Some.ensures)

pub returns-in-None : goal.returns-in-None
returns-in-None c =
    member_missing c.self.inside.fields.items c.self.inside.first c.args.self.now c.args.name.now c.self.invariant
    c.self.view_is (sym c.in-None.ensures)
