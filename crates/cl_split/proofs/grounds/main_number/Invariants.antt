use Rattle.std.proofs.Common.{◌≡◌, codes, drop}
use Rattle.cl_levels.specs.Uses.{number_from, number_among}
use Rattle.cl_split.proofs.grounds.main_number.Given as goal

abbrev pub invariant-loop-k : goal.invariant-loop-k
invariant-loop-k l = number_from l.k (drop l.k l.functions) (codes "main") ≡ number_among l.functions (codes "main")
