use Rattle.std.specs.Option.{option_copied}
use Rattle.cle_flow.proofs.Admitting.{admissions_more}
use Rattle.cle_flow.proofs.admitted.put_functions.Goals as goal

pub loop-f-preserved : goal.loop-f-preserved
loop-f-preserved c = admissions_more c.args.program.now c.loop-f.f c.args.ons.now c.loop-f.notes.items c.put_admitted.new.notes.items _ (option_copied c.taints.result)
    c.loop-f-test.true c.taints.ensures c.in_ok-put_admitted.ensures c.loop-f.invariant
