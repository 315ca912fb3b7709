use Rattle.std.proofs.Common.{sym, ap, arith}
use Rattle.std.proofs.lemmas.List.{get_or_past}
use Rattle.cl_labelling.specs.Regions.{item_part}
use Rattle.cl_mean.specs.Source.{no_item}
use Rattle.cl_groups.proofs.lines.function_line.Goals as goal

pub returns-in-None : goal.returns-in-None
unfolding item_part
returns-in-None c = sym (ap (λ i. (item_part i).line) (get_or_past c.args.items.now c.args.function.now.item no_item c.in-None.ensures.lookup.3))
