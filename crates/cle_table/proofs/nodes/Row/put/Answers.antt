use Rattle.std.proofs.Common.{ap, ◌∙◌}
use Rattle.cle_table.specs.Numbers.{row_at}
use Rattle.cle_table.proofs.Puts.{row_put}
use Rattle.cle_table.proofs.nodes.Row.put.Goals as goal

pub returns : goal.returns
returns c = row_put c.args.self.now c.grow.new.row.items c.args.k c.args.number c.in_ok-grow.ensures.long
    (λ j. c.in_ok-grow.ensures.same j ∙ ap (λ r. row_at r j) c.self.view_is)
