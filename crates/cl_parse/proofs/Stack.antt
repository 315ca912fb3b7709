-- The top of a stack.
use Rattle.std.proofs.Common.{◌≡◌, List, [], ◌∷◌, ◌++◌, refl}
use Rattle.std.proofs.lemmas.List.{reverse-append, map-append}
use Rattle.cl_parse.specs.declared.brackets.Bracket.{Bracket}
use Rattle.cl_parse.specs.Brackets.{bracket_of, from_top}

pub top : (bs : List Bracket) (b : Bracket) → from_top (bs ++ b ∷ []) ≡ bracket_of b ∷ from_top bs
top bs b = simp (map-append, reverse-append) refl
