use Rattle.std.proofs.Common.{◌≡◌, sym}
use Rattle.serde_json.specs.View.{view}
use Rattle.serde_json.specs.Errors.{IsMemory}
use Rattle.cle_text.specs.Answer.{JsonIs}
use Rattle.cle_text.proofs.Json.{json_some, json_none}
use Rattle.cle_text.proofs.definition.json_in.Goals as goal

pub returns-then-is_memory : goal.returns-then-is_memory
unfolding JsonIs
returns-then-is_memory c = tt

pub returns-in-Ok : goal.returns-in-Ok
unfolding JsonIs
returns-in-Ok c = json_some c.args.bytes.now (view c.in-Ok.value) c.in-Ok.ensures.ok.0 c.in-Ok.ensures.ok.1

pub returns-else-is_memory : goal.returns-else-is_memory
unfolding JsonIs
returns-else-is_memory c =
    let f : c.is_memory.result ≡ Rattle.std.proofs.Common.false = c.if-is_memory.false in
    json_none c.args.bytes.now
    (c.in-Err.ensures.err (λ (m : IsMemory c.in-Err.error). let k : c.is_memory.result ≡ Rattle.std.proofs.Common.true = c.is_memory.ensures.1 m in cc))
