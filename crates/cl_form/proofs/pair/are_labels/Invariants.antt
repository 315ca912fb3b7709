use Rattle.std.proofs.Common.{◌≡◌, map, length, not}
use Rattle.std.specs.List.{list_all}
use Rattle.cl_tree.specs.Words.{is_cle_word}
use Rattle.cl_form.proofs.pair.are_labels.Given as goal

abbrev pub invariant-loop-words : goal.invariant-loop-words
invariant-loop-words l = list_all (λ w. not (is_cle_word w)) (map (λ w. w.now) l.words) ≡ list_all (λ w. not (is_cle_word w)) (map (λ w. w.now) l.initial.words)

abbrev pub decreases-loop-words : goal.decreases-loop-words
decreases-loop-words l = length l.words
