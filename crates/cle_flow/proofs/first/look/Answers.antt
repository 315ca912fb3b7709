use Rattle.std.proofs.Common.{List, subst, Some, None}
use Rattle.cl_groups.specs.Marks.{IsLeast}
use Rattle.cle_ways.specs.declared.ways.Note.{Note}
use Rattle.cle_flow.specs.Judged.{Broken}
use Rattle.cle_flow.proofs.Answered.{rule_holds, rule_fails}
use Rattle.cle_flow.proofs.first.look.Goals as goal

pub returns-in-Some : goal.returns-in-Some
returns-in-Some c = rule_fails c.args.judge.now.program c.args.rule c.in-Some.line
    (subst (λ (ns : List Note). IsLeast (Broken c.args.judge.now.program c.args.rule ns) (Some c.in-Some.line)) c.requires.notes c.in-Some.ensures)

pub returns-in-None : goal.returns-in-None
returns-in-None c = rule_holds c.args.judge.now.program c.args.rule
    (subst (λ (ns : List Note). IsLeast (Broken c.args.judge.now.program c.args.rule ns) None) c.requires.notes c.in-None.ensures)
