use Rattle.std.proofs.Common.{◌≡◌, drop}
use Rattle.cl_labelling.specs.Names.{not_known}
use Rattle.cle_names.specs.Names.{named_by}
use Rattle.cle_names.proofs.known.look_known.Given as goal

abbrev pub invariant-loop-seen : goal.invariant-loop-seen
invariant-loop-seen l =
    not_known (named_by l.known) (drop l.seen-index l.all) ≡ not_known (named_by l.known) l.all
