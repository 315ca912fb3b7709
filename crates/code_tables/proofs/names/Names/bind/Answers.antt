use Rattle.std.proofs.Common.{refl, ap, length}
use Rattle.code_tables.proofs.Kept.{kept_bind, known_bind}
use Rattle.code_tables.proofs.names.Names.bind.Goals as goal

pub invariant_of-self-in-Ok : goal.invariant_of-self-in-Ok
invariant_of-self-in-Ok c =
    kept_bind c.self.inside.slots.items c.push.new.self.items (record
    { name = c.args.name; meant = c.args.meant; hidden = c.get-hidden.result }) c.self.inside.latest c.set.new.self
    c.args.name.now (length c.as_slice-place.result.now)
    c.self.invariant c.in_ok-push.ensures.items c.get-hidden.ensures refl (ap length c.as_slice-place.ensures.value)
    c.in-Ok.ensures.ok

pub returns-in-Ok-clause-ok : goal.returns-in-Ok-clause-ok
returns-in-Ok-clause-ok c =
    known_bind c.self.inside.slots.items c.push.new.self.items (record
    { name = c.args.name; meant = c.args.meant; hidden = c.get-hidden.result }) c.args.self.now
    c.in_ok-push.ensures.items c.self.view_is
