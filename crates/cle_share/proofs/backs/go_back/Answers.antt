use Rattle.std.proofs.Common.{◌∙◌, sym, ap, rules, drop, arith}
use Rattle.std.proofs.lemmas.List.{drop_all}
use Rattle.cl_tree.specs.declared.tree.Declarator.{Declarator}
use Rattle.cle_share.specs.Bearings.{go_back}
use Rattle.cle_share.proofs.Returned.{none_go}
use Rattle.cle_share.proofs.backs.go_back.Goals as goal

pub returns-in_default : goal.returns-in_default
returns-in_default c =
    sym (none_go (drop c.loop-place.place c.args.row.now)) ∙ sym (ap (go_back (drop c.loop-place.place c.args.row.now)) (drop_all c.loop-place.place c.args.params.now (omega (arith, c.in_default.ensures.lookup)))) ∙ c.loop-place.invariant
