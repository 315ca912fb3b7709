use Rattle.std.proofs.Common.{List, subst}
use Rattle.code_tables.specs.declared.names.Slot.{Slot}
use Rattle.std.specs.Vec.{vec_len}
use Rattle.code_tables.specs.Table.{IsKept}
use Rattle.code_tables.proofs.Kept.{kept_has, kept_pop, known_pop, known_empty}
use Rattle.code_tables.proofs.names.Names.unbind.Goals as goal

pub restore-requires : goal.restore-requires
restore-requires c = kept_has c.pop.new.self.items c.in-Some.slot c.self.inside.latest
    (subst (λ (xs : List Slot). IsKept xs c.self.inside.latest) c.in-Some.ensures.items c.self.invariant)

pub invariant_of-self : goal.invariant_of-self
invariant_of-self c =
    kept_pop c.pop.new.self.items c.in-Some.slot c.self.inside.latest c.restore.new.self
    (subst (λ (xs : List Slot). IsKept xs c.self.inside.latest) c.in-Some.ensures.items c.self.invariant)
    c.restore.ensures

pub returns-in-Some : goal.returns-in-Some
returns-in-Some c = known_pop c.self.inside.slots.items c.pop.new.self.items c.in-Some.slot c.args.self.now
    c.in-Some.ensures.items c.self.view_is

pub returns-in_default : goal.returns-in_default
returns-in_default c =
    let g = c.in_default.ensures.cases in
    known_empty c.self.inside.slots.items c.pop.new.self.items (vec_len c.self.inside.slots) c.args.self.now g.0
    c.in_default.ensures.items c.in_default.ensures.rest c.self.view_is
