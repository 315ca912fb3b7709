use Rattle.cl_rows.proofs.fill.reply_of.Goals as goal

pub returns : goal.returns
returns c = c.narrow.ensures _ c.requires.small c.sizes_at-sizes.ensures.reply
