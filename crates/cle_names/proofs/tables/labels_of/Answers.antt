use Rattle.std.proofs.Common.{◌≡◌, IfOk, subst}
use Rattle.cle_names.specs.Names.{named_by}
use Rattle.cle_names.proofs.Walks.{facts_same}
use Rattle.cle_names.proofs.tables.labels_of.Goals as goal

pub returns : goal.returns
returns c =
    subst (λ x. IfOk c.all_facts.result (λ fs. fs ≡ x)) (facts_same (named_by c.args.known.now) c.args.all.now)
    c.all_facts.ensures
