use Rattle.std.proofs.Common.{length, ◌-◌, ◌≡◌, ◌≤◌, false, drop}
use Rattle.cl_lex.specs.Scans.{closing}
use Rattle.cl_lex.proofs.scan.closing.Given as goal

abbrev pub invariant-loop-i : goal.invariant-loop-i
invariant-loop-i l = record {
  within : l.i ≤ length l.text;
  same : closing l.kind l.i l.state (drop l.i l.text) ≡ closing l.kind l.from false (drop l.from l.text);
}

abbrev pub decreases-loop-i : goal.decreases-loop-i
decreases-loop-i l = length l.text - l.i
