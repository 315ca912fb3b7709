use Rattle.std.proofs.Common.{◌≡◌, map, length}
use Rattle.cl_form.specs.Form.{distinct}
use Rattle.cl_form.proofs.pair.is_distinct.Given as goal

abbrev pub invariant-loop-words : goal.invariant-loop-words
invariant-loop-words l = distinct (map (λ w. w.now) l.words) ≡ distinct (map (λ w. w.now) l.initial.words)

abbrev pub decreases-loop-words : goal.decreases-loop-words
decreases-loop-words l = length l.words
