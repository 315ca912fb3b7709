use Rattle.std.proofs.Common.{◌≡◌, ◌++◌, List, ◌+◌, ◌*◌, length}
use Rattle.cl_mean.specs.Shape.{times}
use Rattle.cl_tree.specs.Words.{Word}
use Rattle.guard_places.specs.Places.{chosen_places}
use Rattle.guard_places.specs.Tables.{struct_leaves}
use Rattle.guard_places.proofs.tables.Tables.+push.Given as goal

abbrev pub decreases-push : goal.decreases-push
decreases-push l = 2 * length l.path.now

abbrev pub decreases-push_each : goal.decreases-push_each
decreases-push_each l = 2 * length l.path.now + 1

abbrev pub invariant-push_each-loop-turn : goal.invariant-push_each-loop-turn
invariant-push_each-loop-turn l = record {
  kept : l.self ≡ l.fn.self;
  long : (path : List Word) → length (struct_leaves l.fn.self.typed.program.items l.fn.inner.item path) ≡ l.stride;
  behind : l.next ≡ l.fn.at + l._turn * l.stride;
  added : l.out.items ≡ l.fn.out.items ++ chosen_places l.fn.at (times l._turn (struct_leaves l.fn.self.typed.program.items l.fn.inner.item l.path));
}
