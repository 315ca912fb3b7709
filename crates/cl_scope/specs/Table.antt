-- How the table of scopes keeps its bindings.
use Rattle.std.specs.Prelude.{◌≡◌, ℕ, ◌+◌, ◌*◌, ◌%◌, ◌-◌, List, [], ◌∷◌, map, reverse, length, take, Option, Some, None, if◌then◌else◌, bytes_eq, slice_get}
use Rattle.std.specs.BTreeMap.{get_by_text}
use Rattle.cl_tree.specs.Words.{Word}
use Rattle.cl_typing.specs.Scope.{Entry, variable, function, structure, Binding, binding, Env, types_of, declarators, fields_of}
use Rattle.cl_scope.specs.declared.latest.Latest.{Latest}
use Rattle.cl_scope.specs.declared.latest.Places.{Places}
use Rattle.cl_scope.specs.declared.scopes.Meaning.{Meaning}
use Rattle.cl_scope.specs.declared.scopes.Meaning.TheVariants.{Variable, Function, Structure}
use Rattle.cl_scope.specs.declared.scopes.Slot.{Slot}

abbrev pub entry_of : Meaning → Entry
entry_of (Variable t) = variable t.now
entry_of (Function result params) = function result.now (types_of params.now)
entry_of (Structure members) = structure (fields_of (declarators members.now))

abbrev pub binding_of : Slot → Binding
binding_of s = binding s.name.now (entry_of s.means)

-- the bindings of slots, of which the innermost is the last
unfoldable pub env_of : List Slot → Env
env_of slots = map binding_of (reverse slots)

-- the bindings that came since there were `start` of them
abbrev pub since : ℕ → Env → Env
since start env = take (length env - start) env

-- the place of a name's innermost binding, counted from the outermost one
unfoldable pub place_in : Env → Word → Option ℕ
place_in [] name = None
place_in (b ∷ env) name = if bytes_eq b.name name then Some (length env) else place_in env name

-- Each slot, from the last on, knows the place that its name had before.
unfoldable pub Hides : List Slot → Type 0
Hides [] = Unit {0}
Hides (s ∷ slots) = (s.hidden ≡ place_in (map binding_of slots) s.name.now) × Hides slots

-- the place that is noted for a name in one map
abbrev pub held_at : Places → Word → Option ℕ
held_at map name = get_by_text map.places name

-- the map of a name
unfoldable pub map_from : ℕ → Word → ℕ
map_from map [] = map
map_from map (byte ∷ bytes) = map_from ((map * 31 + byte) % 4096) bytes

abbrev pub map_of : Word → ℕ
map_of name = map_from 0 name

abbrev pub held_in : Option Places → Word → Option ℕ
held_in None name = None
held_in (Some map) name = held_at map name

-- the place that is noted for a name
abbrev pub place_at : Latest → Word → Option ℕ
place_at latest name = held_in (slice_get latest.maps.items (map_of name)) name

pub record IsKept (slots : List Slot) (latest : Latest) : Type 0 where
  pub places : (name : Word) → place_at latest name ≡ place_in (env_of slots) name
  pub hides : Hides (reverse slots)
