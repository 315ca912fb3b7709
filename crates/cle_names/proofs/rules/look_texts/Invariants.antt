use Rattle.std.proofs.Common.{◌≡◌, drop}
use Rattle.cle_names.specs.Walked.{json_places}
use Rattle.cle_names.proofs.rules.look_texts.Given as goal

abbrev pub invariant-loop-seen : goal.invariant-loop-seen
invariant-loop-seen l = json_places (drop l.seen-index l.all) ≡ json_places l.all
