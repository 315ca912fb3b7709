use Rattle.std.proofs.Common.{◌≡◌, drop}
use Rattle.cl_mean.specs.Judging.{entry_for}
use Rattle.cl_calls.proofs.entries.entry_for.Given as goal

abbrev pub invariant-loop-entry : goal.invariant-loop-entry
invariant-loop-entry l = entry_for (drop l.entry-index l.entries) l.level ≡ entry_for l.entries l.level
