use Rattle.std.proofs.Common.{◌≡◌, List, map, refl, sym, ap, ◌∙◌, subst, length, Some, None, slice_get, option_map}
use Rattle.std.proofs.lemmas.Option.{slice_get_read, slice_get_past}
use Rattle.code_forms.specs.Layout as layout
use Rattle.code_tables.specs.declared.facts.Callee.{Callee}
use Rattle.code_tables.specs.Facts.{Held, called, callee_by}
use Rattle.code_tables.proofs.First.{found, not_there}
use Rattle.code_tables.proofs.facts.Facts.callee.Goals as goal

pub returns-in-Some-get : goal.returns-in-Some-get
returns-in-Some-get c =
    let g = c.in-Some-get.ensures.lookup in
    let read : slice_get c.deref.result.now c.in-Some.place ≡ Some c.in-Some-get.callee.now =
    slice_get_read c.deref.result.now (length c.deref.result.now) c.in-Some.place c.in-Some-get.callee.now refl g.3.0 g.1 in
    let view = ap (λ (h : Held). h.callees) c.self.view_is in
    ap (λ cs. layout.callee_of (map callee_by cs) c.args.name.now) (sym view)
    ∙ found c.self.inside.callees.items c.in-Some.place c.args.name.now (sym (c.self.invariant c.args.name.now) ∙ sym c.in-Some.ensures)
    ∙ ap (option_map (λ (x : Callee). callee_by (called x))) (subst (λ (xs : List Callee). slice_get xs c.in-Some.place ≡ Some c.in-Some-get.callee.now) c.deref.ensures.value read)

pub returns-in-None-get : goal.returns-in-None-get
returns-in-None-get c =
    let g = c.in-None-get.ensures.lookup in
    let view = ap (λ (h : Held). h.callees) c.self.view_is in
    ap (λ cs. layout.callee_of (map callee_by cs) c.args.name.now) (sym view)
    ∙ found c.self.inside.callees.items c.in-Some.place c.args.name.now (sym (c.self.invariant c.args.name.now) ∙ sym c.in-Some.ensures)
    ∙ ap (option_map (λ (x : Callee). callee_by (called x))) (subst (λ (xs : List Callee). slice_get xs c.in-Some.place ≡ None) c.deref.ensures.value (slice_get_past c.deref.result.now c.in-Some.place g.3))

pub returns-in-None : goal.returns-in-None
returns-in-None c =
    let view = ap (λ (h : Held). h.callees) c.self.view_is in
    ap (λ cs. layout.callee_of (map callee_by cs) c.args.name.now) (sym view)
    ∙ not_there (map called c.self.inside.callees.items) 0 c.args.name.now (sym (c.self.invariant c.args.name.now) ∙ sym c.in-None.ensures)
