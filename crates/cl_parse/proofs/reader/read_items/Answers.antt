use Rattle.std.proofs.Common.{◌≡◌, ◌≤◌, ◌<◌, [], length, arith}
use Rattle.std.proofs.lemmas.Grind.{common_steps}
use Rattle.cl_tree.specs.Items.{cut}
use Rattle.cl_parse.specs.First.{first_length}
use Rattle.cl_parse.proofs.Itemwise.{goes_done, none_left, first_moves}
use Rattle.cl_parse.proofs.reader.read_items.Goals as goal

pub items-smaller : goal.items-smaller
items-smaller c =
    let some : 0 < length c.items.rest.now = grind (arith, common_steps) in
    let moves : 1 ≤ first_length [] c.items.after c.items.rest.now = first_moves c.items.after c.items.rest.now some in
    omega (arith, c.in_ok-size.ensures.size)

pub returns : goal.returns
returns c =
    let none : length c.items.rest.now ≡ 0 = grind (arith, common_steps) in
    goes_done (cut c.args.terminals.now) c.items.done c.items.after c.items.rest.now (none_left c.items.rest.now none) c.items.invariant
