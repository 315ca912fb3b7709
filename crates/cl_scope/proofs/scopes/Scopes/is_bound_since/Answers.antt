use Rattle.std.proofs.Common.{sym, None, Some}
use Rattle.cl_scope.proofs.Table.{some_bound, none_bound, kept_place}
use Rattle.cl_scope.proofs.scopes.Scopes.is_bound_since.Goals as goal

pub returns-in-Some : goal.returns-in-Some
returns-in-Some c = sym (some_bound c.args.start c.args.self.now c.args.name.now c.in-Some.place
    (kept_place c.self.inside.slots.items c.self.inside.latest c.args.self.now c.args.name.now (Some c.in-Some.place)
    c.self.invariant c.self.view_is (sym c.in-Some.ensures)))

pub returns-in-None : goal.returns-in-None
returns-in-None c = sym (none_bound _ c.args.self.now c.args.name.now
    (kept_place c.self.inside.slots.items c.self.inside.latest c.args.self.now c.args.name.now None c.self.invariant
    c.self.view_is (sym c.in-None.ensures)))
