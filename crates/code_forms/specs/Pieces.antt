-- Pieces of code. Jumps name places, and values that wait are cells of the frame; so a piece waits for the place where it
-- begins, and for the number of cells that the frame has then.
use Rattle.std.specs.Prelude.{ℕ, ◌+◌, List, [], ◌∷◌, ◌++◌, length, map, max}
use Rattle.en_image.specs.declared.instr.Instr.{Instr}
use Rattle.en_image.specs.declared.instr.Instr.TheVariants as instr
use Rattle.code_forms.specs.declared.mark.Mark.{Mark}
use Rattle.code_forms.specs.declared.mark.Mark.TheVariants.{Set, Leave, Next}

-- how many cells it needs at most beside those that the frame has, and its instructions
pub record Piece : Type 0 where
  pub height : ℕ
  pub code : ℕ → ℕ → List Instr

abbrev pub no_code : Piece
no_code = record { height = 0; code = λ at top. [] }

-- an instruction that pushes a cell
abbrev pub single : Instr → Piece
single i = record { height = 1; code = λ at top. i ∷ [] }

-- a piece, and instructions behind it, which come to so many cells
abbrev pub then_do : Piece → ℕ → List Instr → Piece
then_do p high is = record { height = max p.height high; code = λ at top. p.code at top ++ is }

-- a piece that leaves so many cells, and another one
abbrev pub then_piece : Piece → ℕ → Piece → Piece
then_piece a cells b = record {
  height = max a.height (cells + b.height);
  code = λ at top. a.code at top ++ b.code (at + length (a.code at top)) (top + cells);
}

-- ---- statements

abbrev pub sets : List Instr → List Mark
sets is = map Set is

-- The code of a statement waits for the place where it begins. Its jumps out of a loop are marks until the loop is whole.
pub record Part : Type 0 where
  pub height : ℕ
  pub code : ℕ → List Mark

abbrev pub no_part : Part
no_part = record { height = 0; code = λ at. [] }

-- a piece that is carried out where so many cells are the frame's variables
abbrev pub part_of : ℕ → Piece → Part
part_of frame p = record { height = p.height; code = λ at. sets (p.code at frame) }

abbrev pub then_part : Part → Part → Part
then_part a b = record { height = max a.height b.height; code = λ at. a.code at ++ b.code (at + length (a.code at)) }

-- the jumps out of a loop, by the place behind it and the one where it goes on
unfoldable pub resolved : ℕ → ℕ → Mark → Mark
resolved leave next (Set i) = Set i
resolved leave next Leave = Set (instr.Jump leave)
resolved leave next Next = Set (instr.Jump next)

-- the instruction of a mark that stands in no loop, where no accepted source has one
unfoldable pub fixed : Mark → Instr
fixed (Set i) = i
fixed Leave = instr.Jump 0
fixed Next = instr.Jump 0
