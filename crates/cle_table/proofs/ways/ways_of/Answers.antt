use Rattle.cle_table.proofs.Exactly.{ways_whole}
use Rattle.cle_table.proofs.ways.ways_of.Goals as goal

pub returns : goal.returns
returns c = ways_whole c.args.notes.now.objects c.as_slice.result.now c.args.notes.now.functions c.as_slice-2.result.now _ c.add_ways.new.ways.items c.add_bodies.new.ways.items
    c.as_slice.ensures c.as_slice-2.ensures c.new-ways.ensures.items c.in_ok-add_ways.ensures c.in_ok-add_bodies.ensures
