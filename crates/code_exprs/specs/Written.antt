-- What is written.
use Rattle.std.specs.Prelude.{ℕ, ◌+◌, List, ◌++◌, length, max}
use Rattle.en_image.specs.declared.instr.Instr.{Instr}
use Rattle.code_forms.specs.declared.mark.Mark.{Mark}
use Rattle.code_forms.specs.Pieces.{Piece, sets}

-- instructions, and how many cells the frame has at most
pub record Written : Type 0 where
  pub code : List Mark
  pub most : ℕ

-- some instructions more
abbrev pub pushed : List Instr → Written → Written
pushed is w = record { code = w.code ++ sets is; most = w.most }

-- the frame comes to so many cells
abbrev pub reached : ℕ → Written → Written
reached high w = record { code = w.code; most = max w.most high }

-- a piece more, where the frame has so many cells
abbrev pub wrote : Piece → ℕ → Written → Written
wrote p top w = record { code = w.code ++ sets (p.code (length w.code) top); most = max w.most (top + p.height) }
