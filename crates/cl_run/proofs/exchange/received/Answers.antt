use Rattle.std.proofs.Common.{◌≡◌, rules, ◌∙◌, ◌∷◌, [], sym, ap, ℤ, pos, List, get_or}
use Rattle.std.proofs.lemmas.Int.{to_z-of_z}
use Rattle.cl_run.proofs.Sends.{payload_is, int_payload_is, int_fits}
use Rattle.cl_run.proofs.exchange.received.Goals as goal

pub returns : goal.returns
returns c = λ h n small bytes.
    let payload = payload_is c.bytes.result.now h n (c.bytes.ensures.bytes ∙ bytes) in
    let only = c.decode.ensures.only c.if-not-decode.false (n ∷ []) (int_fits c.args.layout.now n c.requires.layout small) (int_payload_is c.args.layout.now n c.requires.layout ∙ sym payload) in
    let number : get_or c.decode.new.values 0 (pos 0) ≡ n = ap (λ (ns : List ℤ). get_or ns 0 (pos 0)) (sym only) in
    search (rules, number, to_z-of_z)
