use Rattle.std.proofs.Common.{refl}
use Rattle.rpc_codec.proofs.Fields.{is_header}
use Rattle.rpc_codec.proofs.frame.Header.read.Goals as goal

pub returns : goal.returns
returns c =
    is_header c.args.bytes.now _ c.requires (λ k. (c.type_inv.bytes k).fits) c.read_u32.ensures c.read_u32-2.ensures c.read_u32-3.ensures c.read_u64.ensures refl c.read_u32-4.ensures
