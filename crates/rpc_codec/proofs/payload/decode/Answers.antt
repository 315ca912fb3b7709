use Rattle.std.proofs.Common.{◌≡◌, rules, arith, length-set}
use Rattle.std.proofs.lemmas.Int.{to_z-of_z}
use Rattle.cl_mean.specs.Journal.{payload_numbers}
use Rattle.rpc_codec.proofs.Payloads.{numbers_more, numbers_done, size_more, bytes_return, numbers_fit, only_numbers}
use Rattle.rpc_codec.proofs.payload.decode.Goals as goal

pub loop-place-preserved : goal.loop-place-preserved
loop-place-preserved c =
    let number = rw c.kinds-kind-items.ensures at c.number_at.ensures in
    let size = rw c.kinds-kind-items.ensures at c.size_of-at.ensures.size in
    let here = rw c.kinds-kind-items.ensures at c.loop-place-test.true in
    let count = c.loop-place.invariant.count in
    record {
      numbers = rw size (numbers_more _ _ _ here _ _ _ _ _ (omega arith) (search (rules, to_z-of_z, number)) c.loop-place.invariant.numbers);
      long = rw size (size_more _ _ _ here _ _ c.loop-place.invariant.long);
      count = search (rules, length-set);
    }

numbers_are : (c : goal.After-loop-place) → c.loop-place.values ≡ payload_numbers c.args.layout.now c.args.bytes.now
numbers_are c = numbers_done _ _ _ _ _ (rw c.kinds-kind-items.ensures at c.loop-place-test.false) c.loop-place.invariant.count c.loop-place.invariant.numbers

pub returns-clause-numbers : goal.returns-clause-numbers
returns-clause-numbers c = numbers_are c

pub returns-clause-bytes : goal.returns-clause-bytes
returns-clause-bytes c _ = rw (numbers_are c) (bytes_return c.args.layout.now c.args.bytes.now (λ k. (c.type_inv.bytes k).fits) (search rules))

pub returns-clause-fits : goal.returns-clause-fits
returns-clause-fits c _ = rw (numbers_are c) (numbers_fit c.args.layout.now c.args.bytes.now)

pub returns-clause-only : goal.returns-clause-only
returns-clause-only c _ ns e same = rw (numbers_are c) (only_numbers c.args.layout.now ns c.args.bytes.now e same)
