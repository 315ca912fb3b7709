use Rattle.std.proofs.Common.{sym, ap, ◌∙◌, length}
use Rattle.code_tables.proofs.Kept.{known_length}
use Rattle.code_tables.proofs.names.Names.len.Goals as goal

pub returns : goal.returns
returns c = ap length c.as_slice.ensures.value ∙ sym (known_length c.self.inside.slots.items) ∙ ap length c.self.view_is
