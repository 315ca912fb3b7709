use Rattle.std.proofs.Common.{sym, ◌∙◌, arith}
use Rattle.cl_regions.proofs.Steps.{handed}
use Rattle.cl_levels.proofs.Steps.{passed, ended}
use Rattle.cl_rows.specs.Bytes.{structs_in}
use Rattle.cl_rows.proofs.Marked.{next_fact, no_fact_left}
use Rattle.cl_rows.proofs.wide.look.Goals as goal

pub returns-in_err-look_at : goal.returns-in_err-look_at
returns-in_err-look_at c =
    handed c.from_residual.result _ _ c.from_residual.ensures.1
    (ended c.in_err-look_at.field-0.0 _ _ _ _ c.in_err-look_at.ensures
    (next_fact (structs_in c.args.bytes.now) c.args.typed.now c.args.called.now c.args.functions.now c.loop-f.f c.index-functions-f.result (omega arith) c.index-functions-f.is) c.loop-f.invariant)

pub loop-f-preserved : goal.loop-f-preserved
loop-f-preserved c =
    passed _ _ _ _ c.in_ok-look_at.ensures
    (next_fact (structs_in c.args.bytes.now) c.args.typed.now c.args.called.now c.args.functions.now c.loop-f.f c.index-functions-f.result (omega arith) c.index-functions-f.is) c.loop-f.invariant

pub returns : goal.returns
returns c = sym c.loop-f.invariant ∙ no_fact_left (structs_in c.args.bytes.now) c.args.typed.now c.args.called.now c.args.functions.now c.loop-f.f (omega arith)
