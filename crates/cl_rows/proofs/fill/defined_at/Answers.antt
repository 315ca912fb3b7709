use Rattle.cl_rows.proofs.fill.defined_at.Goals as goal

pub unreachable-requires : goal.unreachable-requires
unreachable-requires c = c.requires c.in-None.ensures
