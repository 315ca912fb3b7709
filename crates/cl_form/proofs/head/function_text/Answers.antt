use Rattle.std.proofs.Common.{rules}
use Rattle.cl_form.proofs.Heads.{function_parts}
use Rattle.cl_form.proofs.head.function_text.Goals as goal

pub returns : goal.returns
returns c =
    let e = function_parts c.as_slice.ensures c.as_bytes.ensures c.as_slice-2.ensures c.as_bytes-2.ensures c.as_slice-3.ensures c.as_bytes-3.ensures c.as_slice-4.ensures c.as_bytes-4.ensures c.as_slice-5.ensures in
    let j = rw e at c.in_ok-join.ensures in
    search (rules, j)
