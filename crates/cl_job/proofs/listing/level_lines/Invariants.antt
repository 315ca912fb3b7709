use Rattle.std.proofs.Common.{◌≡◌, ◌≤◌, ◌+◌, ◌++◌, length, string_bytes}
use Rattle.cl_job.specs.Listing.{level_lines}
use Rattle.cl_job.proofs.listing.level_lines.Given as goal

abbrev pub invariant-loop-left : goal.invariant-loop-left
invariant-loop-left l =
    (string_bytes l.text ++ level_lines l.checked.levels l.level l.left ≡ level_lines l.checked.levels 0 l.checked.labels.levels)
    × (l.level + length l.left ≤ length l.checked.labels.levels)

abbrev pub decreases-loop-left : goal.decreases-loop-left
decreases-loop-left l = length l.left
