use Rattle.std.proofs.Common.{◌≡◌, ◌++◌, length, string_bytes}
use Rattle.cl_job.specs.Listing.{call_lines}
use Rattle.cl_job.proofs.listing.call_lines.Given as goal

abbrev pub invariant-loop-left : goal.invariant-loop-left
invariant-loop-left l = string_bytes l.text ++ call_lines l.names l.left ≡ call_lines l.names l.rows

abbrev pub decreases-loop-left : goal.decreases-loop-left
decreases-loop-left l = length l.left
