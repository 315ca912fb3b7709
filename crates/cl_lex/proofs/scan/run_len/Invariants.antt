use Rattle.std.proofs.Common.{length, ◌-◌, ◌≡◌, ◌+◌, ◌≤◌, drop, slice_index}
use Rattle.cl_lex.specs.Scans.{span}
use Rattle.cl_lex.proofs.scan.run_len.Given as goal

abbrev pub invariant-loop-i : goal.invariant-loop-i
invariant-loop-i l = record {
  within : l.i ≤ length l.text;
  same : l.i + span l.run l.state (drop l.i l.text) ≡ 1 + span l.run (slice_index l.text 0) (drop 1 l.text);
}

abbrev pub decreases-loop-i : goal.decreases-loop-i
decreases-loop-i l = length l.text - l.i
