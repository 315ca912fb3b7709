use Rattle.std.proofs.Common.{sym, ap, ◌∙◌, length}
use Rattle.cl_uses.proofs.Kept.{known_length}
use Rattle.cl_uses.proofs.table.Table.len.Goals as goal

pub returns : goal.returns
returns c = ap length c.as_slice.ensures.value ∙ sym (known_length c.self.inside.slots.items) ∙ ap length c.self.view_is
