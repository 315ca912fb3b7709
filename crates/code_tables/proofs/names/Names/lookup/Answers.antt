use Rattle.std.proofs.Common.{◌≡◌, List, refl, sym, subst, length, Some, None, slice_get}
use Rattle.code_tables.specs.declared.names.Slot.{Slot}
use Rattle.std.proofs.lemmas.Option.{slice_get_read, slice_get_past}
use Rattle.code_tables.proofs.Kept.{found_some, found_none}
use Rattle.code_tables.proofs.names.Names.lookup.Goals as goal

pub returns-in-Some-get : goal.returns-in-Some-get
returns-in-Some-get c =
    let g = c.in-Some-get.ensures.lookup in
    let read : slice_get c.deref.result.now c.in-Some.place ≡ Some c.in-Some-get.slot.now =
    slice_get_read c.deref.result.now (length c.deref.result.now) c.in-Some.place c.in-Some-get.slot.now refl g.3.0
    g.1 in
    found_some c.self.inside.slots.items c.self.inside.latest c.args.self.now c.args.name.now c.in-Some.place
    (Some c.in-Some-get.slot.now) c.self.invariant c.self.view_is (sym c.in-Some.ensures)
    (sym (subst (λ (xs : List Slot). slice_get xs c.in-Some.place ≡ Some c.in-Some-get.slot.now) c.deref.ensures.value
    read))

pub returns-in-None-get : goal.returns-in-None-get
returns-in-None-get c =
    let g = c.in-None-get.ensures.lookup in
    found_some c.self.inside.slots.items c.self.inside.latest c.args.self.now c.args.name.now c.in-Some.place None
    c.self.invariant c.self.view_is (sym c.in-Some.ensures)
    (sym (subst (λ (xs : List Slot). slice_get xs c.in-Some.place ≡ None) c.deref.ensures.value
    (slice_get_past c.deref.result.now c.in-Some.place g.3)))

pub returns-in-None : goal.returns-in-None
returns-in-None c = found_none c.self.inside.slots.items c.self.inside.latest c.args.self.now c.args.name.now
    c.self.invariant c.self.view_is (sym c.in-None.ensures)
