use Rattle.cl_calls.specs.Signatures.{signatures_in}
use Rattle.cl_labelling.specs.Fits.{signature}
use Rattle.cl_rows.specs.Bytes.{structs_in}
use Rattle.cl_rows.proofs.Sums.{request_by, reply_by}
use Rattle.cl_rows.proofs.wide.sizes_at.Goals as goal

pub returns-in-Some-clause-request : goal.returns-in-Some-clause-request
returns-in-Some-clause-request c =
    request_by (structs_in c.args.bytes.now) (signatures_in c.args.typed.now c.args.f) (signature c.in-Some.signature.name.now c.in-Some.signature.result.now c.in-Some.signature.params.now) c.of_all.result c.of_all.ensures c.in-Some.ensures

pub returns-in-Some-clause-reply : goal.returns-in-Some-clause-reply
returns-in-Some-clause-reply c =
    reply_by (structs_in c.args.bytes.now) (signatures_in c.args.typed.now c.args.f) (signature c.in-Some.signature.name.now c.in-Some.signature.result.now c.in-Some.signature.params.now) c.of_reply.result c.of_reply.ensures c.in-Some.ensures
