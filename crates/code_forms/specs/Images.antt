-- The image of a level.
use Rattle.std.specs.Prelude.{ℕ, zero, suc, ◌+◌, ◌==◌, ◌&&◌, Bool, true, false, ℤ, pos, List, [], ◌∷◌, ◌++◌, map, filter, length, replicate, Option, Some, None, if◌then◌else◌}
use Rattle.std.specs.List.{flat_map}
use Rattle.cl_tree.specs.Arithmetic.{value}
use Rattle.cl_tree.specs.declared.kinds.IntKind.{IntKind}
use Rattle.cl_tree.specs.declared.tree.Expr.{Expr}
use Rattle.cl_tree.specs.declared.tree.Init.{Init, Init-F, fold-Init}
use Rattle.cl_tree.specs.declared.tree.Init.TheOpen as init
use Rattle.cl_mean.specs.declared.checked.FnFact.{FnFact}
use Rattle.cl_mean.specs.declared.checked.Checked.{Checked}
use Rattle.cl_mean.specs.Shape.{Shape, integer, struct, array, Members, no_members, member, kinds_of, count_of}
use Rattle.cl_mean.specs.Source.{Static, Definition, Source, source_of, function_at, main_of, row_of, payload_of, payload_size, is_owned_by, is_global}
use Rattle.cl_mean.specs.LocalRun.{if_at, function_served}
use Rattle.cl_typing.specs.Types.{constant}
use Rattle.en_image.specs.declared.image.Image.{Image}
use Rattle.en_image.specs.declared.image.Entrance.{Entrance}
use Rattle.en_image.specs.declared.image.Payload.{Payload}
use Rattle.en_image.specs.declared.instr.Instr.{Instr}
use Rattle.code_forms.specs.declared.route.Route.{Route}
use Rattle.code_forms.specs.declared.route.Route.TheVariants.{Within, Across, Astray}
use Rattle.code_forms.specs.declared.storage.Storage.TheVariants.{Global}
use Rattle.code_forms.specs.Layout.{is_array, Bound, bound, Callee, Facts}
use Rattle.code_forms.specs.Pieces.{Part}
use Rattle.code_forms.specs.Statements.{Routine}
use Rattle.code_forms.specs.Functions.{shapes_of, routine_of, body_part, function_size, function_code, function_entrance, start_code, start_entrance}

-- ---- functions of the source, as a level calls them

abbrev pub route_by : Bool → Option ℕ → Route
route_by true row = Within
route_by false (Some row) = Across row
route_by false None = Astray

abbrev pub callee_at : Source → ℕ → Definition → Callee
callee_at source level d = record {
  name = d.name;
  index = d.index;
  line = d.line;
  route = route_by (level == d.level) (row_of source level d);
  result = d.result;
  params = shapes_of d.params;
}

abbrev pub facts_of : Source → ℕ → Facts
facts_of source level = record { structs = source.structs; callees = map (callee_at source level) source.functions }

-- ---- objects of static duration

-- an object, and whether it is one of the level; each of these has the static cells behind those of the one before it
pub record Laid : Type 0 where
  pub static : Static
  pub is_here : Bool
  pub bound : Bound

abbrev pub is_static_at : ℕ → Static → Bool
is_static_at level s = s.binding.place.level == level

abbrev pub laid : ℕ → ℕ → Static → Laid
laid level cell s = record { static = s; is_here = is_static_at level s; bound = bound s.binding.name s.binding.shape (Global cell) }

abbrev pub next_cell : Bool → Shape → ℕ → ℕ
next_cell true shape cell = cell + count_of shape
next_cell false shape cell = cell

unfoldable pub laid_from : ℕ → ℕ → List Static → List Laid
laid_from level cell [] = []
laid_from level cell (s ∷ ss) = laid level cell s ∷ laid_from level (next_cell (is_static_at level s) s.binding.shape cell) ss

-- the names at file level that the functions of the level know
abbrev pub globals_in : List Laid → List Bound
globals_in ls = map (λ l. l.bound) (filter (λ l. l.is_here && is_global l.static) ls)

-- the static locals of a function, in the order of the source
abbrev pub statics_in : List Laid → ℕ → List Bound
statics_in ls index = map (λ l. l.bound) (filter (λ l. is_owned_by index l.static) ls)

-- ---- first values

abbrev pub zeros : Shape → List ℤ
zeros shape = replicate (count_of shape) (pos 0)

-- a constant in the kind of its cell
abbrev pub number_in : IntKind → Option ℤ → List ℤ
number_in kind None = pos 0 ∷ []
number_in kind (Some n) = value kind n ∷ []

-- the values that an initialiser gives to an object of a type: what it leaves out is zero
abbrev pub Values : Type 0
Values = Shape → List ℤ

abbrev pub constant_in : Expr → Values
constant_in e (integer kind) = number_in kind (constant e).number
constant_in e shape = zeros shape

abbrev pub member_values : Members → List Values → List ℤ
member_values no_members vs = []
member_values (member name s ms) [] = zeros s ++ member_values ms []
member_values (member name s ms) (v ∷ vs) = v s ++ member_values ms vs

abbrev pub element_values : ℕ → Shape → List Values → List ℤ
element_values zero s vs = []
element_values (suc n) s [] = zeros s ++ element_values n s []
element_values (suc n) s (v ∷ vs) = v s ++ element_values n s vs

abbrev pub part_values : List Values → Values
part_values vs (struct ms) = member_values ms vs
part_values vs (array element size) = element_values size element vs
part_values vs shape = zeros shape

abbrev pub init_values : Init-F Values → Values
init_values (init.One e) = constant_in e
init_values (init.Many all) = part_values all

unfoldable pub values_by : Init → Values
values_by = fold-Init Values init_values

abbrev pub first_values : Option Init → Values
first_values None shape = zeros shape
first_values (Some i) shape = values_by i shape

-- the static cells of a level at the start of a run
abbrev pub static_values : ℕ → List Static → List ℤ
static_values level ss = flat_map (λ s. first_values s.init s.binding.shape) (filter (is_static_at level) ss)

-- ---- payloads of rows

abbrev pub numbers_from : ℕ → ℕ → List ℕ
numbers_from at zero = []
numbers_from at (suc n) = at ∷ numbers_from (suc at) n

abbrev pub places_in : ℕ → Shape → List ℕ
places_in at shape = if is_array shape then numbers_from at (count_of shape) else []

-- the places of the integers of arrays among those of a request
abbrev pub array_places : ℕ → List Shape → List ℕ
array_places at [] = []
array_places at (s ∷ ss) = places_in at s ++ array_places (at + count_of s) ss

abbrev pub payload_by : Option Definition → Payload
payload_by None = record { request = []; reply = []; request_length = 0; reply_length = 0; arrays = [] }
payload_by (Some d) = record {
  request = kinds_of (payload_of d false);
  reply = kinds_of (payload_of d true);
  request_length = payload_size d false;
  reply_length = payload_size d true;
  arrays = array_places 0 (shapes_of d.params);
}

-- ---- the code of a level

-- what the code of a level's functions goes by
pub record Ground : Type 0 where
  pub facts : Facts
  pub laid : List Laid

abbrev pub ground_of : Source → ℕ → Ground
ground_of source level = record { facts = facts_of source level; laid = laid_from level 0 source.statics }

abbrev pub routine_in : Ground → Definition → Routine
routine_in g d = routine_of g.facts (statics_in g.laid d.index) d

abbrev pub part_in : Ground → Definition → Part
part_in g d = body_part (routine_in g d) (globals_in g.laid) d

abbrev pub size_in : Ground → Definition → ℕ → ℕ
size_in g d at = function_size (part_in g d) d at

-- a function of the level, and behind it the code that begins it
abbrev pub code_in : Ground → Definition → ℕ → List Instr
code_in g d at = function_code (part_in g d) d at ++ start_code d

abbrev pub behind : Ground → Option Definition → ℕ → ℕ
behind g None at = at
behind g (Some d) at = at + (size_in g d at + length (start_code d))

abbrev pub maybe_code : Ground → Option Definition → ℕ → List Instr
maybe_code g None at = []
maybe_code g (Some d) at = code_in g d at

abbrev pub maybe_entrance : Ground → Option Definition → ℕ → Option Entrance
maybe_entrance g None at = None
maybe_entrance g (Some d) at = Some (function_entrance (routine_in g d) (part_in g d) d at)

abbrev pub maybe_start : Ground → Option Definition → ℕ → Option Entrance
maybe_start g None at = None
maybe_start g (Some d) at = Some (start_entrance d (at + size_in g d at))

unfoldable pub code_from : Ground → List (Option Definition) → ℕ → List Instr
code_from g [] at = []
code_from g (d ∷ ds) at = maybe_code g d at ++ code_from g ds (behind g d at)

unfoldable pub entrances_from : Ground → List (Option Definition) → ℕ → List (Option Entrance)
entrances_from g [] at = []
entrances_from g (d ∷ ds) at = maybe_entrance g d at ∷ entrances_from g ds (behind g d at)

unfoldable pub starts_from : Ground → List (Option Definition) → ℕ → List (Option Entrance)
starts_from g [] at = []
starts_from g (d ∷ ds) at = maybe_start g d at ∷ starts_from g ds (behind g d at)

-- the functions by their numbers: those of the level
unfoldable pub slots_from : Source → ℕ → ℕ → List FnFact → List (Option Definition)
slots_from source level k [] = []
slots_from source level k (f ∷ fs) = if_at level (function_at source.functions k) ∷ slots_from source level (suc k) fs

-- The entrance that begins a function of the level stands as far behind the entrance that a call enters by as there are functions.
abbrev pub start_number : ℕ → Option Definition → Option ℕ
start_number functions None = None
start_number functions (Some d) = Some (functions + d.index)

abbrev pub image_by : Checked → Source → ℕ → Ground → List (Option Definition) → Image
image_by checked source level g slots = record {
  code = code_from g slots 0;
  functions = entrances_from g slots 0 ++ starts_from g slots 0;
  statics = static_values level source.statics;
  rows = map (λ row. start_number (length checked.typed.functions) (function_served source level (Some row))) checked.gedl.rows;
  main = start_number (length checked.typed.functions) (if_at level (main_of source));
  payloads = map (λ row. payload_by (function_at source.functions row.function)) checked.gedl.rows;
}

-- The image of a level of a checked source.
unfoldable pub image_of : Checked → ℕ → Image
image_of checked level =
    image_by checked (source_of checked) level (ground_of (source_of checked) level) (slots_from (source_of checked) level 0 checked.typed.functions)
