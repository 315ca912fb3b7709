use Rattle.std.proofs.Common.{◌+◌, List, take, subst, sym, Option, ℕ}
use Rattle.std.specs.List.{flat_map}
use Rattle.std.proofs.lemmas.List.{take_all}
use Rattle.cl_groups.specs.Marks.{IsLeast}
use Rattle.cle_ways.specs.declared.ways.Body.{Body}
use Rattle.cle_ways.specs.declared.ways.Note.{Note}
use Rattle.cle_flow.specs.Judged.{Broken}
use Rattle.cle_flow.proofs.Least.{body_more}
use Rattle.cle_flow.proofs.first.least_in_bodies.Goals as goal

pub loop-function-preserved : goal.loop-function-preserved
loop-function-preserved c = subst (λ (o : Option ℕ). IsLeast (Broken c.args.judge.now.program c.args.rule (flat_map (λ b. b.notes) (take (c.loop-function.function-index + 1) c.args.functions.now))) o) (sym c.lesser-least.ensures)
    (body_more c.args.judge.now.program c.args.rule c.args.functions.now c.loop-function.function-index c.function-item.result c.loop-function.least c.least_line.result
    c.loop-function-test.true c.function-item.is c.loop-function.invariant
    (subst (λ (ns : List Note). IsLeast (Broken c.args.judge.now.program c.args.rule ns) c.least_line.result) c.as_slice.ensures c.least_line.ensures))

pub returns : goal.returns
returns c = subst (λ (fs : List Body). IsLeast (Broken c.args.judge.now.program c.args.rule (flat_map (λ b. b.notes) fs)) c.loop-function.least)
    (take_all c.loop-function.function-index c.args.functions.now c.loop-function-test.false) c.loop-function.invariant
