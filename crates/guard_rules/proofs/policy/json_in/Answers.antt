use Rattle.std.proofs.Common.{◌≡◌, refl, true, false}
use Rattle.serde_json.specs.View.{view}
use Rattle.serde_json.specs.Errors.{IsMemory}
use Rattle.cl_labelling.specs.Json.{json_of}
use Rattle.guard_rules.proofs.Failing.{not_there}
use Rattle.guard_rules.proofs.Reading.{json_some, json_none}
use Rattle.guard_rules.proofs.policy.json_in.Goals as goal

pub returns-in-Ok : goal.returns-in-Ok
returns-in-Ok c = json_some c.args.bytes.now (view c.in-Ok.value) c.in-Ok.ensures.ok.0 c.in-Ok.ensures.ok.1

pub returns-else-is_memory : goal.returns-else-is_memory
returns-else-is_memory c =
    let f : c.is_memory.result ≡ false = c.if-is_memory.false in (
      refl,
      not_there (json_of c.args.bytes.now) (json_none c.args.bytes.now
          (c.in-Err.ensures.err (λ (m : IsMemory c.in-Err.error). let k : c.is_memory.result ≡ true = c.is_memory.ensures.1 m in cc))),
    )
