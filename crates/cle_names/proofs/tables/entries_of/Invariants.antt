use Rattle.std.proofs.Common.{◌≡◌, take, map}
use Rattle.cl_labelling.specs.Names.{entry_of}
use Rattle.cle_names.specs.Names.{named_by}
use Rattle.cle_names.proofs.tables.entries_of.Given as goal

abbrev pub invariant-loop-entry : goal.invariant-loop-entry
invariant-loop-entry l = l.found ≡ map (entry_of (named_by l.known)) (take l.entry-index l.entries)
