use Rattle.std.proofs.Common.{◌≡◌, ◌++◌, ◌+◌, List, true, ap, subst, ◌∙◌, rules}
use Rattle.cl_mean.specs.declared.checked.Checked.{Checked}
use Rattle.guard_places.specs.declared.tables.Owner.TheVariants as owner
use Rattle.guard_places.specs.Places.{chosen_places}
use Rattle.guard_places.specs.Tables.{owner_leaves, struct_leaves}
use Rattle.guard_places.proofs.Placing.{each_step, next_at}
use Rattle.guard_places.proofs.tables.Tables.+push.Goals as goal

pub push_each-loop-turn-preserved : goal.push_each-loop-turn-preserved
push_each-loop-turn-preserved t c =
    let done : c.in_ok-push.field-0 ≡ true = search rules in
    let added : c.push.new.out.items ≡ c.loop-turn.out.items ++ chosen_places c.loop-turn.next (struct_leaves c.args.self.now.typed.program.items c.args.inner.item c.args.path.now)
    = subst (λ (k : Checked). c.push.new.out.items ≡ c.loop-turn.out.items ++ chosen_places c.loop-turn.next (owner_leaves k (owner.Item c.args.inner.item) c.args.path.now)) c.loop-turn.invariant.kept (c.in_ok-push.ensures.added done) in
    record {
      kept = c.in_ok-push.ensures.kept ∙ c.loop-turn.invariant.kept;
      long = c.loop-turn.invariant.long;
      behind = next_at c.args.at c.loop-turn._turn c.in-Some.table.now.count c.loop-turn.next c.in-Some-checked_add.next c.loop-turn.invariant.behind c.in-Some-checked_add.ensures.1;
      added = each_step c.loop-turn._turn c.in-Some.table.now.count c.args.at c.loop-turn.next (struct_leaves c.args.self.now.typed.program.items c.args.inner.item c.args.path.now)
          c.loop-turn.out.items c.push.new.out.items c.args.out.now.items (c.loop-turn.invariant.long c.args.path.now) c.loop-turn.invariant.behind added c.loop-turn.invariant.added;
    }
