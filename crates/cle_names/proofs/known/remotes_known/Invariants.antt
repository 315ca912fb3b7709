use Rattle.std.proofs.Common.{◌≡◌, drop}
use Rattle.std.specs.List.{list_all}
use Rattle.cl_labelling.specs.Names.{has_word}
use Rattle.cle_names.specs.Names.{named_by}
use Rattle.cle_names.proofs.known.remotes_known.Given as goal

abbrev pub invariant-loop-entry : goal.invariant-loop-entry
invariant-loop-entry l =
    list_all (λ e. has_word (named_by l.known).levels e.remote) (drop l.entry-index l.entries)
    ≡ list_all (λ e. has_word (named_by l.known).levels e.remote) l.entries
