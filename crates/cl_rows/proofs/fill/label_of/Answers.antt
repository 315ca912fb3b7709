use Rattle.cl_rows.proofs.fill.label_of.Goals as goal

pub unreachable-requires : goal.unreachable-requires
unreachable-requires c = c.requires c.in-None.ensures
