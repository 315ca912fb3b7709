use Rattle.cle_table.proofs.Exactly.{are_flows}
use Rattle.cle_table.proofs.table.Table.flow.Goals as goal

pub returns : goal.returns
returns c = λ notes e. are_flows notes c.args.self.now c.args.objects c.args.functions.now _ e c.in_ok-objects.ensures c.in_ok-locals.ensures c.in_ok-results.ensures
