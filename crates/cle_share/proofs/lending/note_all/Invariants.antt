use Rattle.std.proofs.Common.{◌≡◌, ◌&&◌, ℕ, drop, length, map}
use Rattle.cle_share.specs.Bearings.{all_lend, bearings, flag_at}
use Rattle.cle_share.specs.Signatures.{noted_at}
use Rattle.cle_share.proofs.lending.note_all.Given as goal

abbrev pub invariant-loop-bearing : goal.invariant-loop-bearing
invariant-loop-bearing l = record {
  each : (k : ℕ) → (flag_at l.flags k && all_lend (map (λ row. row.items) l.rows) (noted_at l.signatures) k (bearings (drop l.bearing-index l.all)))
      ≡ (flag_at l.initial.flags k && all_lend (map (λ row. row.items) l.rows) (noted_at l.signatures) k (bearings l.all));
  long : length l.flags ≡ length l.rows;
}
