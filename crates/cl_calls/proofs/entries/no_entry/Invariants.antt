use Rattle.std.proofs.Common.{◌≡◌, drop}
use Rattle.cl_calls.specs.Calls.{no_entry_in}
use Rattle.cl_calls.proofs.entries.no_entry.Given as goal

abbrev pub invariant-loop-call : goal.invariant-loop-call
invariant-loop-call l = no_entry_in l.labels l.levels (drop l.call-index l.crossings) ≡ no_entry_in l.labels l.levels l.crossings
