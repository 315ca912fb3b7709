use Rattle.std.proofs.Common.{◌≡◌, ℕ, List, ◌∷◌, ap, ◌∙◌, subst, length, Some, bytes_eq}
use Rattle.std.specs.Map.{update}
use Rattle.cl_typing.specs.Scope.{Field, binding, structure}
use Rattle.cl_scope.specs.Table.{place_at}
use Rattle.cl_members.proofs.Structs.{tagged_push, tags_bind}
use Rattle.cl_members.proofs.tags.Tags.bind.Goals as goal

pub invariant_of-self-in-Ok : goal.invariant_of-self-in-Ok
invariant_of-self-in-Ok c =
    tagged_push c.self.inside.tags.items c.push.new.self.items
    (record { name = c.args.name; fields = c.in_ok-fields.fields }) c.self.inside.latest c.set.new.self
    c.self.invariant c.in_ok-push.ensures.items
    (λ q. subst
    (λ (n : ℕ). place_at c.set.new.self q
    ≡ update bytes_eq (place_at c.self.inside.latest) c.args.name.now (Some n) q)
    (ap length c.as_slice-place.ensures.value) (c.in-Ok.ensures.ok q))

pub returns-in-Ok-clause-ok : goal.returns-in-Ok-clause-ok
returns-in-Ok-clause-ok c =
    tags_bind c.self.inside.tags.items c.push.new.self.items
    (record { name = c.args.name; fields = c.in_ok-fields.fields }) c.args.self.now c.in_ok-push.ensures.items
    c.self.view_is
    ∙ ap (λ (fs : List Field). binding c.args.name.now (structure fs) ∷ c.args.self.now) c.in_ok-fields.ensures
