use Rattle.std.proofs.Common.{◌≡◌, take, map}
use Rattle.cl_labelling.specs.Names.{mentions_of}
use Rattle.cle_names.specs.Names.{named_by}
use Rattle.cle_names.proofs.tables.lists_of.Given as goal

abbrev pub invariant-loop-list : goal.invariant-loop-list
invariant-loop-list l =
    l.found ≡ map (λ a. record { all = mentions_of (named_by l.known) a.all }) (take l.list-index l.lists)
