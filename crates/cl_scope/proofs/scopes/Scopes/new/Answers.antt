use Rattle.std.proofs.Common.{List, sym, ap, ◌∙◌, subst}
use Rattle.cl_scope.specs.declared.scopes.Slot.{Slot}
use Rattle.cl_scope.specs.Table.{env_of, IsKept}
use Rattle.cl_scope.proofs.Table.{kept_none, none_env}
use Rattle.cl_scope.proofs.scopes.Scopes.new.Goals as goal

pub invariant_of-result : goal.invariant_of-result
invariant_of-result c = subst (λ (xs : List Slot). IsKept xs c.new-2.result) (sym c.new.ensures.items)
    (kept_none c.new-2.result c.new-2.ensures)

pub returns : goal.returns
returns c = ap env_of c.new.ensures.items ∙ none_env
