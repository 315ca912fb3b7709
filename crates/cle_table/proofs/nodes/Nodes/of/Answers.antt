use Rattle.std.proofs.Common.{List, All, subst, arith}
use Rattle.std.proofs.lemmas.List.{take_all}
use Rattle.cl_mean.specs.declared.labels.Mention.TheVariants.{Label}
use Rattle.cle_ways.specs.declared.ways.Holder.TheVariants.{Object}
use Rattle.cle_ways.specs.declared.ways.Origin.TheVariants.{Just}
use Rattle.cle_ways.specs.declared.ways.Way.{Way}
use Rattle.cle_table.specs.Numbers.{WayNumbered}
use Rattle.cle_table.proofs.Numbered.{way_more}
use Rattle.cle_table.proofs.nodes.Nodes.of.Goals as goal

pub loop-way-preserved : goal.loop-way-preserved
loop-way-preserved c = record {
  numbered = c.in_ok-add_way.ensures.numbered;
  all = way_more c.loop-way.nodes c.add_way.new.self c.args.ways.now c.loop-way.way-index (record { from = Just (Label 0); into = Object 0 }) (omega arith) c.in_ok-add_way.ensures.kept c.loop-way.invariant.all c.in_ok-add_way.ensures.there;
}

pub returns-clause-all : goal.returns-clause-all
returns-clause-all c = subst (λ (ws : List Way). All (WayNumbered c.loop-way.nodes) ws) (take_all c.loop-way.way-index c.args.ways.now c.loop-way-test.false) c.loop-way.invariant.all
