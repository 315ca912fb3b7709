use Rattle.cle_names.proofs.Numbers.{numbered_add, words_push, not_there}
use Rattle.cle_names.proofs.labels.Labels.add.Goals as goal

pub invariant_of-self-in-Ok : goal.invariant_of-self-in-Ok
invariant_of-self-in-Ok c =
    numbered_add c.self.inside.names.items c.push.new.self.items c.args.name c.args.self.now c.self.inside.places
    c.set.new.self c.len-place.result c.self.invariant c.self.view_is (not_there c.args.self.now c.args.name.now c.requires) c.in_ok-push.ensures.items
    c.len-place.ensures c.in-Ok.ensures.ok

pub returns-in-Ok : goal.returns-in-Ok
returns-in-Ok c =
    words_push c.self.inside.names.items c.push.new.self.items c.args.name c.args.self.now c.in_ok-push.ensures.items
    c.self.view_is
