use Rattle.cl_form.proofs.Heads.{def_parts}
use Rattle.cl_form.proofs.head.def_line.Goals as goal

pub returns : goal.returns
returns c = rw (def_parts c.args.text.now c.as_slice.ensures c.as_bytes.ensures c.as_slice-2.ensures c.as_slice-3.ensures) at c.join.ensures
