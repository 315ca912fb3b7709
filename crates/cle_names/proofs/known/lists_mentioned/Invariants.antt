use Rattle.std.proofs.Common.{◌≡◌, drop}
use Rattle.std.specs.List.{list_all}
use Rattle.cl_labelling.specs.Names.{all_mentioned}
use Rattle.cle_names.specs.Names.{named_by}
use Rattle.cle_names.proofs.known.lists_mentioned.Given as goal

abbrev pub invariant-loop-list : goal.invariant-loop-list
invariant-loop-list l =
    list_all (λ a. all_mentioned (named_by l.known) a.all) (drop l.list-index l.lists)
    ≡ list_all (λ a. all_mentioned (named_by l.known) a.all) l.lists
