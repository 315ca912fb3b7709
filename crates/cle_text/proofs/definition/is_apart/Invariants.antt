use Rattle.std.proofs.Common.{◌≡◌, map, drop, not, bytes_eq}
use Rattle.std.specs.List.{list_all}
use Rattle.cle_text.proofs.definition.is_apart.Given as goal

abbrev pub invariant-loop-other : goal.invariant-loop-other
invariant-loop-other l =
    list_all (λ v. not (bytes_eq l.entry.remote v)) (map (λ e. e.remote) (drop l.other-index l.others))
    ≡ list_all (λ v. not (bytes_eq l.entry.remote v)) (map (λ e. e.remote) l.others)
