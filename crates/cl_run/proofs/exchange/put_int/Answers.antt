use Rattle.std.proofs.Common.{ap, ◌∙◌, ◌++◌, ℕ, List, arith, refl}
use Rattle.std.proofs.lemmas.Int.{to_z-of_z}
use Rattle.cl_run.specs.Steps.{int_payload}
use Rattle.cl_run.proofs.Sends.{int_payload_is, int_size}
use Rattle.cl_run.proofs.exchange.put_int.Goals as goal

pub encode_into-requires : goal.encode_into-requires
encode_into-requires c =
    let size = int_size c.args.layout.now c.requires.layout in
    record { count = rw c.requires.layout refl; room = omega (arith, c.requires.room) }

pub returns-clause-bytes : goal.returns-clause-bytes
returns-clause-bytes c = c.encode_into.ensures.bytes ∙ ap (λ (xs : List ℕ). c.args.frame.now ++ xs) (int_payload_is c.args.layout.now _ c.requires.layout ∙ ap int_payload (to_z-of_z _ c.args.value c.ranges.value))

pub returns-clause-long : goal.returns-clause-long
returns-clause-long c =
    let size = int_size c.args.layout.now c.requires.layout in
    omega (arith, c.encode_into.ensures.long)
