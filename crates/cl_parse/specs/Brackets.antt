-- The code's brackets and effects, as the definition of items has them.
use Rattle.std.specs.Prelude.{List, map, reverse}
use Rattle.cl_tree.specs.Items as items
use Rattle.cl_parse.specs.declared.brackets.Bracket.{Bracket}
use Rattle.cl_parse.specs.declared.brackets.Bracket.TheVariants as bracket
use Rattle.cl_parse.specs.declared.brackets.Effect.{Effect}
use Rattle.cl_parse.specs.declared.brackets.Effect.TheVariants as effect

abbrev pub bracket_of : Bracket → items.Bracket
bracket_of bracket.Round = items.round
bracket_of bracket.Square = items.square
bracket_of bracket.Brace = items.brace
bracket_of bracket.Body = items.body

abbrev pub effect_of : Effect → items.Effect
effect_of (effect.Opens b) = items.opens (bracket_of b)
effect_of (effect.Closes b) = items.closes (bracket_of b)
effect_of effect.Semicolon = items.semicolon
effect_of effect.Pragma = items.pragma_line
effect_of effect.Nothing = items.none

-- a stack, from its top
abbrev pub from_top : List Bracket → List items.Bracket
from_top bs = reverse (map bracket_of bs)
