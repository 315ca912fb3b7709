use Rattle.std.proofs.Common.{◌≡◌, take, map}
use Rattle.cl_labelling.specs.Names.{mention_of}
use Rattle.cle_names.specs.Names.{named_by}
use Rattle.cle_names.proofs.tables.mentions_of.Given as goal

abbrev pub invariant-loop-name : goal.invariant-loop-name
invariant-loop-name l = l.mentions ≡ map (mention_of (named_by l.known)) (take l.name-index l.names)
