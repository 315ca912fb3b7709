-- The types of elements and members.
use Rattle.std.proofs.Common.{◌≡◌, ℕ, refl, Option, Some, None}
use Rattle.code_forms.specs.Layout as layout
use Rattle.code_forms.specs.Lowering.{Lowered, indexed, selected, element_of, section_of}
use Rattle.code_forms.specs.Pieces.{Piece}

pub element_shape : (line : ℕ) (es : layout.Elements) (a b : Lowered) → es.shape ≡ (indexed (Some es) line a b).shape
element_shape line es a b = by a.place
  where
    by : (p : Option Piece) → es.shape ≡ (element_of line es a b p).shape
    by None = refl
    by (Some p) = refl

pub section_shape : (s : layout.Section) (a : Lowered) → s.shape ≡ (selected (Some s) a).shape
section_shape s a = by a.place
  where
    by : (p : Option Piece) → s.shape ≡ (section_of s a p).shape
    by None = refl
    by (Some p) = refl
