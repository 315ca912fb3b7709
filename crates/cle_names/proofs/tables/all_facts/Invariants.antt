use Rattle.std.proofs.Common.{◌≡◌, ◌++◌, drop}
use Rattle.std.specs.List.{flat_map}
use Rattle.cle_names.specs.Names.{named_by, facts_at}
use Rattle.cle_names.proofs.tables.all_facts.Given as goal

abbrev pub invariant-loop-seen : goal.invariant-loop-seen
invariant-loop-seen l =
    l.facts ++ flat_map (facts_at (named_by l.known)) (drop l.seen-index l.all)
    ≡ flat_map (facts_at (named_by l.known)) l.all
