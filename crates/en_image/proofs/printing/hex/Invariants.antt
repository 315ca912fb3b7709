use Rattle.std.proofs.Common.{◌≡◌, ◌≤◌, length, drop}
use Rattle.std.specs.Prelude.{false}
use Rattle.std.specs.Fmt.{digits, digits_onto}
use Rattle.en_image.proofs.printing.hex.Given as goal

abbrev pub invariant-loop-at : goal.invariant-loop-at
invariant-loop-at l = record {
  within : l.at ≤ 64;
  size : length l.buffer ≡ 64;
  told : digits_onto l.at 16 false l.rest (drop l.at l.buffer) ≡ digits 16 false l.n;
}

abbrev pub decreases-loop-at : goal.decreases-loop-at
decreases-loop-at l = l.at
