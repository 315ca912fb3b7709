use Rattle.std.proofs.Common.{◌≡◌, ◌++◌, drop}
use Rattle.std.specs.List.{flat_map}
use Rattle.cl_levels.specs.Levels.{lines_in}
use Rattle.cl_uses.proofs.lines.look_items.Given as goal

abbrev pub invariant-loop-item : goal.invariant-loop-item
invariant-loop-item l =
    l.lines.items ++ flat_map lines_in (drop l.item-index l.items) ≡ l.initial.lines.items ++ flat_map lines_in l.items
