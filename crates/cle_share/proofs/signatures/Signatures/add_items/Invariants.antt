use Rattle.std.proofs.Common.{◌≡◌, drop}
use Rattle.std.specs.List.{flat_map}
use Rattle.cl_tree.specs.Words.{Word}
use Rattle.cle_share.specs.Signatures.{known, noted_at, or_first, signatures_in}
use Rattle.cle_share.proofs.signatures.Signatures.add_items.Given as goal

abbrev pub invariant-loop-item : goal.invariant-loop-item
invariant-loop-item l =
    (q : Word) → or_first (noted_at l.self q) (known (flat_map (signatures_in l.definitions) (drop l.item-index l.items)) q)
    ≡ or_first (noted_at l.initial.self q) (known (flat_map (signatures_in l.definitions) l.items) q)
