use Rattle.std.proofs.Common.{◌<◌, length, arith}
use Rattle.cle_names.specs.Names.{named_by, facts_at}
use Rattle.cle_names.proofs.Lists.{join_step}
use Rattle.cle_names.proofs.tables.all_facts.Goals as goal

pub loop-seen-preserved : goal.loop-seen-preserved
loop-seen-preserved c =
    let h : c.loop-seen.seen-index < length c.args.all.now = omega arith in
    join_step (facts_at (named_by c.args.known.now)) c.args.all.now c.seen-item.result c.loop-seen.seen-index
    c.loop-seen.facts c.add_fact.new.facts _ h c.seen-item.is c.in_ok-add_fact.ensures c.loop-seen.invariant
