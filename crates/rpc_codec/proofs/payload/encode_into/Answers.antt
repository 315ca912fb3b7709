use Rattle.std.proofs.Common.{rules, arith}
use Rattle.std.proofs.lemmas.Int.{to_z-of_z}
use Rattle.rpc_codec.proofs.Payloads.{bytes_more, long_more, bytes_done}
use Rattle.rpc_codec.proofs.payload.encode_into.Goals as goal

pub loop-place-preserved : goal.loop-place-preserved
loop-place-preserved c =
    let put = rw c.kinds-kind-items.ensures at c.put_number.ensures in
    let here = rw c.kinds-kind-items.ensures at c.loop-place-test.true in
    let count = c.requires.count in
    record {
      bytes = bytes_more _ _ _ here c.args.values.now _ _ _ _ (omega arith) (search (rules, to_z-of_z)) put c.loop-place.invariant.bytes;
      long = long_more _ _ _ here _ _ _ _ put c.loop-place.invariant.long;
    }

pub returns-clause-bytes : goal.returns-clause-bytes
returns-clause-bytes c =
    let end = rw c.kinds-kind-items.ensures at c.loop-place-test.false in
    bytes_done _ _ _ _ _ end c.loop-place.invariant.bytes
