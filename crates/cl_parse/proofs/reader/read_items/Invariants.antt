use Rattle.std.proofs.Common.{[], length}
use Rattle.cl_tree.specs.Items.{cut_from, cut}
use Rattle.cl_parse.proofs.Itemwise.{Goes}
use Rattle.cl_parse.proofs.reader.read_items.Given as goal

abbrev pub invariant-items : goal.invariant-items
invariant-items l = Goes (cut l.terminals) l.done (cut_from [] l.after l.rest)

abbrev pub decreases-items : goal.decreases-items
decreases-items l = length l.rest
