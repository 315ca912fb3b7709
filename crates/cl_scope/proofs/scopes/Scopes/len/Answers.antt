use Rattle.std.proofs.Common.{sym, ap, ◌∙◌, length}
use Rattle.cl_scope.proofs.Table.{env_length}
use Rattle.cl_scope.proofs.scopes.Scopes.len.Goals as goal

pub returns : goal.returns
returns c = ap length c.as_slice.ensures.value ∙ sym (env_length c.self.inside.slots.items) ∙ ap length c.self.view_is
