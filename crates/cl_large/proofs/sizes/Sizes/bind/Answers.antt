use Rattle.std.proofs.Common.{List, sym, ap, ◌∙◌}
use Rattle.cl_tree.specs.declared.tree.Declaration.{Declaration}
use Rattle.cl_typing.specs.Sizes.{Size, size_of_members}
use Rattle.cl_large.specs.Capped.{capped}
use Rattle.cl_large.proofs.Known.{sized_push, sizes_bind}
use Rattle.cl_large.proofs.sizes.Sizes.bind.Goals as goal

pub invariant_of-self-in-Ok : goal.invariant_of-self-in-Ok
invariant_of-self-in-Ok c =
    sized_push c.self.inside.structs.items c.push.new.self.items
    (record { tag = c.args.tag; members = c.args.members }) c.self.inside.known c.set.new.self
    c.of_members-size.result c.self.invariant c.in_ok-push.ensures.items
    (c.of_members-size.ensures
    ∙ ap (λ (xs : List Declaration). capped (size_of_members c.args.self.now xs)) c.as_slice.ensures
    ∙ ap (λ (x : List Size). capped (size_of_members x c.args.members.now)) (sym c.self.view_is))
    c.in-Ok.ensures.ok

pub returns-in-Ok-clause-ok : goal.returns-in-Ok-clause-ok
returns-in-Ok-clause-ok c =
    sizes_bind c.self.inside.structs.items c.push.new.self.items
    (record { tag = c.args.tag; members = c.args.members }) c.args.self.now c.in_ok-push.ensures.items
    c.self.view_is
