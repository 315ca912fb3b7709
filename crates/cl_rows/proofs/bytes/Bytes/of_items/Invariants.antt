use Rattle.std.proofs.Common.{◌≡◌, take}
use Rattle.cl_mean.specs.Shape.{structs_of}
use Rattle.cl_rows.specs.Bytes.{AreKnown}
use Rattle.cl_rows.proofs.bytes.Bytes.of_items.Given as goal

abbrev pub invariant-loop-i : goal.invariant-loop-i
invariant-loop-i l = (l.all.items.now ≡ take l.i l.items) × AreKnown (structs_of (take l.i l.items)) l.all.known
