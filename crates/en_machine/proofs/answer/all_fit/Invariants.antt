use Rattle.std.proofs.Common.{◌≡◌, drop}
use Rattle.en_machine.specs.Steps.{all_fit}
use Rattle.en_machine.proofs.answer.all_fit.Given as goal

abbrev pub invariant-loop-i : goal.invariant-loop-i
invariant-loop-i l = all_fit l.kinds l.values ≡ all_fit (drop l.i l.kinds) (drop l.i l.values)
