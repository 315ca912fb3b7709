use Rattle.std.proofs.Common.{length, ◌-◌, ◌≤◌, drop, nat_eq}
use Rattle.std.specs.HashMap.{get}
use Rattle.std.specs.Cmp.Lexicographic.{pointwise}
use Rattle.cl_lex.specs.Found.{before, AreLexed}
use Rattle.cl_lex.proofs.lex.lex_text.Given as goal

abbrev pub invariant-loop-at : goal.invariant-loop-at
invariant-loop-at l = record {
  within : l.at ≤ length l.text;
  sofar : AreLexed l.text l.places l.out.items (before l.fresh (λ q. get (pointwise nat_eq) l.defined q)) (drop l.at l.text);
}

abbrev pub decreases-loop-at : goal.decreases-loop-at
decreases-loop-at l = length l.text - l.at
