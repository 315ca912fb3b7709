-- A source without its joins: a backslash and a newline, or a backslash, CR and newline (C11 5.1.1.2, phase 2). Each byte that is left keeps its line and place in the source as it came.
use Rattle.std.specs.Prelude.{ℕ, suc, zero, ◌+◌, ◌-◌, ◌&&◌, ◌==◌, List, [], ◌∷◌, map, slice_index, if◌then◌else◌}
use Prim.Native.Char.{code}
use Rattle.cl_tree.specs.declared.pieces.Place.{Place}

-- the length of the join that a text begins with, or 0
unfoldable pub join_len : List ℕ → ℕ
join_len xs =
    if slice_index xs 0 == code "\\" then
    (if slice_index xs 1 == code "\n" then 2
    else (if (slice_index xs 1 == code "\r") && (slice_index xs 2 == code "\n") then 3 else 0))
    else 0

-- the line behind a byte
unfoldable pub line_after : ℕ → ℕ → ℕ
line_after line b = if b == code "\n" then line + 1 else line

-- a byte and where it stands
pub record Cell : Type 0 where
  pub byte : ℕ
  pub place : Place

abbrev pub cell : ℕ → ℕ → ℕ → Cell
cell start line b = record { byte = b; place = record { line = line; start = start; end = start + 1 } }

-- what is left of a text that stands at a place and a line, where its first `skip` bytes belong to a join
abbrev pub cells : ℕ → ℕ → ℕ → List ℕ → List Cell
cells skip start line [] = []
cells (suc k) start line (b ∷ bs) = cells k (start + 1) (line_after line b) bs
cells zero start line (b ∷ bs) =
    if join_len (b ∷ bs) == 0 then cell start line b ∷ cells 0 (start + 1) (line_after line b) bs
    else cells (join_len (b ∷ bs) - 1) (start + 1) (line_after line b) bs

-- the bytes that are left of a source, and their places
unfoldable pub bytes_of : List ℕ → List ℕ
bytes_of source = map (λ c. c.byte) (cells 0 0 1 source)

unfoldable pub places_of : List ℕ → List Place
places_of source = map (λ c. c.place) (cells 0 0 1 source)
