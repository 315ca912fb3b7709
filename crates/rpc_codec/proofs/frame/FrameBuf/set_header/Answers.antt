use Rattle.std.proofs.Common.{rules}
use Rattle.rpc_codec.proofs.Fields.{own_header, one_header}
use Rattle.rpc_codec.proofs.frame.FrameBuf.set_header.Goals as goal

pub returns-clause-read : goal.returns-clause-read
returns-clause-read c =
    rw (c.set_bytes.ensures, c.to_bytes.ensures) (own_header c.args.header (search rules))

pub returns-clause-only : goal.returns-clause-only
returns-clause-only c other is = one_header _ other c.args.header is (returns-clause-read c)
