use Rattle.std.proofs.Common.{rules, sym, []}
use Rattle.cl_mean.specs.Source.{function_at, source_of}
use Rattle.rpc_codec.proofs.Signatures.{kinds_by_leaves, row_is}
use Rattle.rpc_codec.proofs.layout.Layout.of.Goals as goal

pub returns : goal.returns
returns c =
    rw (row_is (source_of c.args.checked.now) c.args.checked.now.gedl.rows c.args.row c.args.reply c.index-as_slice-row.result c.requires (rw c.as_slice.ensures at c.index-as_slice-row.is))
    (rw (sym (kinds_by_leaves (function_at (source_of c.args.checked.now).functions c.index-as_slice-row.result.function) c.args.reply [])) (search rules))
