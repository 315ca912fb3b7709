-- What the parts of a file or of a block have to do with those behind them.
use Rattle.std.specs.Prelude.{Bool, true, List, [], ◌∷◌}
use Rattle.cl_tree.specs.declared.token.Pragma.TheVariants as pragma
use Rattle.cl_tree.specs.Words.{Word}
use Rattle.cl_labelling.specs.Regions.{Role, says, Part, is_ended, has_next, without}

-- the ends that have no `begin` before them, where a part stands before such
abbrev pub ends_before : List Word → Role → List Word
ends_before ends (says (pragma.Begin name)) = without ends name
ends_before ends (says (pragma.End name)) = name ∷ ends
ends_before ends _ = ends

unfoldable pub ends_ahead : List Part → List Word
ends_ahead [] = []
ends_ahead (p ∷ ps) = ends_before (ends_ahead ps) p.role

-- A `begin` has its `end`, and a pragma for the next item that item.
abbrev pub is_regular_ahead : List Part → Role → Bool
is_regular_ahead rest (says (pragma.Begin name)) = is_ended name 0 rest
is_regular_ahead rest (says (pragma.Next name)) = has_next rest
is_regular_ahead rest _ = true

unfoldable pub all_ahead : List Part → List Bool
all_ahead [] = []
all_ahead (p ∷ ps) = is_regular_ahead ps p.role ∷ all_ahead ps
