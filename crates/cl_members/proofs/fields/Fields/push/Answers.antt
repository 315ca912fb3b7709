use Rattle.std.proofs.Common.{◌≡◌, ℕ, sym, ap, subst, length, Some, bytes_eq}
use Rattle.std.specs.Map.{update}
use Rattle.cl_scope.specs.Table.{place_at}
use Rattle.cl_members.proofs.Members.{indexed_new, indexed_held, fields_bind}
use Rattle.cl_members.proofs.fields.Fields.push.Goals as goal

pub invariant_of-self-in-Some : goal.invariant_of-self-in-Some
invariant_of-self-in-Some c =
    indexed_held c.self.inside.fields.items c.push.new.self.items c.args.d c.self.inside.first c.in-Some.field-0
    c.self.invariant c.in_ok-push.ensures.items (sym c.in-Some.ensures)

pub returns-in-Some-clause-ok : goal.returns-in-Some-clause-ok
returns-in-Some-clause-ok c =
    fields_bind c.self.inside.fields.items c.push.new.self.items c.args.d c.args.self.now c.in_ok-push.ensures.items
    c.self.view_is

pub invariant_of-self-in-Ok : goal.invariant_of-self-in-Ok
invariant_of-self-in-Ok c =
    indexed_new c.self.inside.fields.items c.push.new.self.items c.args.d c.self.inside.first c.set.new.self
    c.self.invariant c.in_ok-push.ensures.items (sym c.in-None.ensures)
    (λ q. subst
    (λ (n : ℕ). place_at c.set.new.self q
    ≡ update bytes_eq (place_at c.self.inside.first) c.args.d.now.name (Some n) q)
    (ap length c.as_slice-place.ensures.value) (c.in-Ok.ensures.ok q))

pub returns-in-Ok-clause-ok : goal.returns-in-Ok-clause-ok
returns-in-Ok-clause-ok c =
    fields_bind c.self.inside.fields.items c.push.new.self.items c.args.d c.args.self.now c.in_ok-push.ensures.items
    c.self.view_is
