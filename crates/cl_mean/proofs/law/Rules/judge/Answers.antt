use Rattle.std.proofs.Common.{◌∙◌}
use Rattle.cl_mean.proofs.Deciding.{found_none, found_one}
use Rattle.cl_mean.proofs.law.Rules.judge.Goals as goal

pub returns-in-None : goal.returns-in-None
returns-in-None c = found_none (λ n. n) c.args.asked c.args.values.now c.first_match-found.result c.as_slice.result.now c.args.self.now c.first_match-found.ensures.place (c.as_slice.ensures.value ∙ c.self.view_is) c.in-None.is

pub returns-in-Some : goal.returns-in-Some
returns-in-Some c = found_one (λ n. n) c.args.asked c.args.values.now c.first_match-found.result c.as_slice.result.now c.self.inside.rules.items c.args.self.now c.in-Some.at c.index_mut.result.now (record { ruling = c.act.result; act = c.act.new.self; values = c.act.new.values }) c.first_match-found.ensures.place c.as_slice.ensures.value c.self.view_is c.in-Some.is c.first_match-found.ensures.within c.index_mut.ensures.value c.act.ensures
