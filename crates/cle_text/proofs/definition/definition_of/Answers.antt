use Rattle.serde_json.specs.View.{view}
use Rattle.cle_text.specs.Answer.{JsonIs}
use Rattle.cle_text.proofs.Json.{found_whole, fails_whole, no_json}
use Rattle.cle_text.proofs.definition.definition_of.Goals as goal

pub returns-in-Ok-clause-found : goal.returns-in-Ok-clause-found
unfolding JsonIs
returns-in-Ok-clause-found c =
    found_whole c.args.bytes.now (view c.in-Ok.value) c.shaped.result c.in-Ok.ensures c.shaped.ensures.found

pub returns-in-Ok-clause-fails : goal.returns-in-Ok-clause-fails
unfolding JsonIs
returns-in-Ok-clause-fails c =
    fails_whole c.args.bytes.now (view c.in-Ok.value) c.shaped.result c.in-Ok.ensures c.shaped.ensures.fails

pub returns-in-Err-clause-fails : goal.returns-in-Err-clause-fails
returns-in-Err-clause-fails c = no_json c.args.bytes.now c.in-Err.stop c.in-Err.ensures
