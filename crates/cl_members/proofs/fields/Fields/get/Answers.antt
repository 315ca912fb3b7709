use Rattle.std.proofs.Common.{◌≡◌, List, refl, sym, ap, ◌∙◌, subst, length, Some, None, option_map, slice_get}
use Rattle.std.specs.Borrow.{Bor}
use Rattle.std.proofs.lemmas.Option.{slice_get_read, slice_get_past}
use Rattle.cl_tree.specs.declared.tree.Declarator.{Declarator}
use Rattle.cl_members.proofs.Members.{type_at}
use Rattle.cl_members.proofs.fields.Fields.get.Goals as goal

pub returns-in-Some : goal.returns-in-Some
returns-in-Some c =
    let g = c.in-Some.ensures.lookup in
    let read : slice_get c.deref.result.now c.args.place ≡ Some c.in-Some.d.now =
    slice_get_read c.deref.result.now (length c.deref.result.now) c.args.place c.in-Some.d.now refl g.3.0 g.1 in
    let held : slice_get c.self.inside.fields.items c.args.place ≡ Some c.in-Some.d.now =
    subst (λ (xs : List (Bor Declarator)). slice_get xs c.args.place ≡ Some c.in-Some.d.now) c.deref.ensures.value
    read in
    sym (ap (option_map (λ (x : Bor Declarator). x.now.ctype)) held)
    ∙ type_at c.self.inside.fields.items c.args.self.now c.args.place c.self.view_is

pub returns-in-None : goal.returns-in-None
returns-in-None c =
    let g = c.in-None.ensures.lookup in
    let none : slice_get c.self.inside.fields.items c.args.place ≡ None =
    subst (λ (xs : List (Bor Declarator)). slice_get xs c.args.place ≡ None) c.deref.ensures.value
    (slice_get_past c.deref.result.now c.args.place g.3) in
    sym (ap (option_map (λ (x : Bor Declarator). x.now.ctype)) none)
    ∙ type_at c.self.inside.fields.items c.args.self.now c.args.place c.self.view_is
