use Rattle.std.proofs.Common.{◌≡◌, ◌++◌, map, drop}
use Rattle.cle_items.specs.Numbered.{function_label, numbered}
use Rattle.cle_items.proofs.functions.on_functions.Given as goal

abbrev pub invariant-loop-function : goal.invariant-loop-function
invariant-loop-function l = l.found ++ map (λ f. function_label (numbered l.all) f.name) (drop l.function-index l.functions) ≡ map (λ f. function_label (numbered l.all) f.name) l.functions
