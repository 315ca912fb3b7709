use Rattle.std.proofs.Common.{◌≡◌, take}
use Rattle.cle_names.proofs.copies.copy_path.Given as goal

abbrev pub invariant-loop-part : goal.invariant-loop-part
invariant-loop-part l = l.copied ≡ take l.part-index l.path
