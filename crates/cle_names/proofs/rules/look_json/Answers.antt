use Rattle.cle_names.proofs.Walks.{json_finds}
use Rattle.cle_names.proofs.rules.look_json.Goals as goal

pub returns : goal.returns
returns c = json_finds c.look_texts.result c.args.all.now c.look_texts.ensures
