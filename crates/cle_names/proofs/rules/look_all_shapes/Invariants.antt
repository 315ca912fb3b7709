use Rattle.std.proofs.Common.{◌≡◌, drop}
use Rattle.cle_names.specs.Walked.{shape_places, levels_behind}
use Rattle.cle_names.proofs.rules.look_all_shapes.Given as goal

abbrev pub invariant-loop-seen : goal.invariant-loop-seen
invariant-loop-seen l = record {
  rest : shape_places l.levels (drop l.seen-index l.all) ≡ shape_places l.initial.levels l.all;
  levels : levels_behind l.levels (drop l.seen-index l.all) ≡ levels_behind l.initial.levels l.all;
}
