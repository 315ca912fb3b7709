use Rattle.std.proofs.Common.{List, subst, ◌∙◌}
use Rattle.cl_levels.specs.Crossings.{Levelled}
use Rattle.cl_levels.specs.Placed.{AllPlacedHold}
use Rattle.cle_ways.specs.declared.ways.Note.{Note}
use Rattle.cle_ways.specs.Flow.{flow_rules}
use Rattle.cle_ways.specs.Programs.{levelled}
use Rattle.cle_table.specs.Exact.{IsExact}
use Rattle.cle_flow.proofs.Answered.{noted_is, is_flow}
use Rattle.cle_flow.proofs.flow.flow_program.Goals as goal

pub returns : goal.returns
returns c =
    let l : Levelled = levelled c.args.typed.now c.args.labels.now c.args.levels.now in
    record {
      holds = subst (λ (p : Levelled). AllPlacedHold (flow_rules p)) c.in_ok-program.ensures c.in_ok-look_rules.ensures;
      is_flow = is_flow l c.in_ok-carried.carried c.len.result c.as_slice-2.result.now c.in_ok-flow.flow c.len.ensures (c.as_slice-2.ensures ∙ c.in_ok-notes.ensures.functions)
          (subst (λ (ns : List Note). IsExact ns c.in_ok-carried.carried) (noted_is l c.in_ok-notes.notes c.in_ok-notes.ensures.objects c.in_ok-notes.ensures.functions) c.in_ok-carried.ensures)
          c.in_ok-flow.ensures;
    }
