use Rattle.std.proofs.Common.{◌≡◌, ◌+◌, drop}
use Rattle.cl_labelling.specs.Names.{number_of}
use Rattle.cle_names.proofs.tables.level_number.Given as goal

abbrev pub invariant-loop-known : goal.invariant-loop-known
invariant-loop-known l = record {
  counted : l.number ≡ l.known-index;
  rest : l.number + number_of (drop l.known-index l.levels) l.level ≡ number_of l.levels l.level;
}
