use Rattle.en_image.proofs.Widest.{Seen}
use Rattle.en_image.proofs.image.Image.largest_frame.Given as goal

abbrev pub invariant-loop-function : goal.invariant-loop-function
invariant-loop-function l = Seen l.self l.function-index l.largest
