use Rattle.typing_laws.proofs.Listing.{facts_are, each_listed, in_order, distinct, has_main}
use Rattle.typing_laws.proofs.facts.functions_are_listed.Goals as goal

pub returns-clause-facts : goal.returns-clause-facts
returns-clause-facts c = facts_are

pub returns-clause-each : goal.returns-clause-each
returns-clause-each c = each_listed

pub returns-clause-order : goal.returns-clause-order
returns-clause-order c = in_order

pub returns-clause-names : goal.returns-clause-names
returns-clause-names c = distinct

pub returns-clause-main : goal.returns-clause-main
returns-clause-main c = has_main
