-- The functions that a level's functions call, as the compiler has them.
use Rattle.std.specs.Prelude.{ℕ, suc, List, [], ◌∷◌, map, Option, Some, None, if◌then◌else◌, bytes_eq}
use Rattle.cl_tree.specs.declared.tree.Item.{Item}
use Rattle.cl_tree.specs.Words.{Word}
use Rattle.cl_mean.specs.Shape.{structs_of}
use Rattle.code_forms.specs.declared.route.Route.{Route}
use Rattle.code_forms.specs.Layout as layout
use Rattle.code_tables.specs.declared.facts.Callee.{Callee}
use Rattle.code_tables.specs.Types.{Kept, kept, shape_by}

-- a function, without the places where its parts are kept
pub record Called : Type 0 where
  pub name : Word
  pub index : ℕ
  pub line : ℕ
  pub route : Route
  pub result : Kept
  pub params : List Kept

abbrev pub called : Callee → Called
called c = record { name = c.name.now; index = c.index; line = c.line; route = c.route; result = kept c.result; params = map kept c.params.items }

-- the items, whose structs are known, and the functions
pub record Held : Type 0 where
  pub items : List Item
  pub callees : List Called

-- the same as the definitions have them
abbrev pub callee_by : Called → layout.Callee
callee_by c = record { name = c.name; index = c.index; line = c.line; route = c.route; result = shape_by c.result; params = map shape_by c.params }

abbrev pub facts_by : Held → layout.Facts
facts_by h = record { structs = structs_of h.items; callees = map callee_by h.callees }

-- the place of the first function of a name, counted from a number on
unfoldable pub place_from : ℕ → List Called → Word → Option ℕ
place_from k [] name = None
place_from k (c ∷ cs) name = if bytes_eq c.name name then Some k else place_from (suc k) cs name

abbrev pub first_of : Option ℕ → Option ℕ → Option ℕ
first_of (Some k) other = Some k
first_of None other = other
