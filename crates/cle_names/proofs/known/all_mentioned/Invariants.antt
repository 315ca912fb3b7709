use Rattle.std.proofs.Common.{◌≡◌, drop}
use Rattle.cl_labelling.specs.Names.{all_mentioned}
use Rattle.cle_names.specs.Names.{named_by}
use Rattle.cle_names.proofs.known.all_mentioned.Given as goal

abbrev pub invariant-loop-name : goal.invariant-loop-name
invariant-loop-name l =
    all_mentioned (named_by l.known) (drop l.name-index l.names) ≡ all_mentioned (named_by l.known) l.names
