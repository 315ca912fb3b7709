-- What the scans compute.
use Rattle.std.proofs.Common.{ℕ, suc, ◌+◌, Bool, List, [], ◌∷◌, Option, Some, None, length, take}
use Rattle.std.specs.Prelude.{if◌then◌else◌, nat_le, ◌&&◌}
use Rattle.cl_tree.specs.declared.pieces.Run.{Run}
use Rattle.cl_tree.specs.declared.pieces.Closed.{Closed}
use Rattle.cl_tree.specs.Pieces.{go, by_state, step, by_next, mark, has}

-- how many bytes go on
abbrev pub span : Run → ℕ → List ℕ → ℕ
span r s [] = 0
span r s (b ∷ bs) = by_state (λ t. suc (span r t bs)) 0 (go r s b)

-- behind which byte the first close is, counted from i
abbrev pub closing : Closed → ℕ → Bool → List ℕ → Option ℕ
closing k i s [] = None
closing k i s (b ∷ bs) = by_next (λ t. closing k (i + 1) t bs) (Some (i + 1)) None (step k s b)

-- how long the longest punctuator is that a text begins with; none is longer than 3
unfoldable pub longest_mark : List ℕ → ℕ
longest_mark xs =
    if nat_le 3 (length xs) && has (mark (take 3 xs)) then 3
    else (if nat_le 2 (length xs) && has (mark (take 2 xs)) then 2
    else (if nat_le 1 (length xs) && has (mark (take 1 xs)) then 1
    else 0))
