use Rattle.std.proofs.Common.{◌≡◌, drop}
use Rattle.cle_names.specs.Walked.{twice_places, labels_behind}
use Rattle.cle_names.proofs.rules.look_all_names.Given as goal

abbrev pub invariant-loop-seen : goal.invariant-loop-seen
invariant-loop-seen l = record {
  rest : twice_places l.labels (drop l.seen-index l.all) ≡ twice_places l.initial.labels l.all;
  labels : labels_behind l.labels (drop l.seen-index l.all) ≡ labels_behind l.initial.labels l.all;
}
