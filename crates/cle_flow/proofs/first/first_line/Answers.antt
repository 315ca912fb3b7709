use Rattle.std.proofs.Common.{List, ◌++◌, subst, sym, Option, ℕ}
use Rattle.std.specs.List.{flat_map}
use Rattle.cl_groups.specs.Marks.{IsLeast}
use Rattle.cle_ways.specs.declared.ways.Body.{Body}
use Rattle.cle_ways.specs.declared.ways.Note.{Note}
use Rattle.cle_flow.specs.Judged.{Broken}
use Rattle.cle_flow.proofs.Least.{least_append}
use Rattle.cle_flow.proofs.first.first_line.Goals as goal

pub returns : goal.returns
returns c = subst (λ (o : Option ℕ). IsLeast (Broken c.args.judge.now.program c.args.rule (c.args.notes.now.objects ++ flat_map (λ b. b.notes) c.args.notes.now.functions)) o) (sym c.lesser.ensures)
    (least_append c.args.judge.now.program c.args.rule c.args.notes.now.objects (flat_map (λ b. b.notes) c.args.notes.now.functions) c.least_line.result c.least_in_bodies.result
    (subst (λ (ns : List Note). IsLeast (Broken c.args.judge.now.program c.args.rule ns) c.least_line.result) c.as_slice.ensures c.least_line.ensures)
    (subst (λ (fs : List Body). IsLeast (Broken c.args.judge.now.program c.args.rule (flat_map (λ b. b.notes) fs)) c.least_in_bodies.result) c.as_slice-2.ensures c.least_in_bodies.ensures))
