use Rattle.cle_ways.specs.declared.ways.Holder.{Holder}
use Rattle.cle_table.specs.Numbers.{HasNumber}
use Rattle.cle_table.proofs.Puts.{on_ok}
use Rattle.cle_table.proofs.nodes.Nodes.add_way.Goals as goal

pub returns-clause-kept : goal.returns-clause-kept
returns-clause-kept c = on_ok c.add_origin.result _ _ (λ (k : (y : Holder) → HasNumber c.add.new.self y → HasNumber c.add_origin.new.self y) y h. k y (c.in_ok-add.ensures.kept y h)) c.add_origin.ensures.kept
