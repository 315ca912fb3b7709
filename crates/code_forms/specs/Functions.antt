-- The code of functions, and of the outermost frames in which they are begun.
use Rattle.std.specs.Prelude.{ℕ, ◌+◌, pos, Bool, List, [], ◌∷◌, ◌++◌, map, sum, length, max, Option, Some, None, if◌then◌else◌, bytes_eq, codes}
use Rattle.cl_tree.specs.declared.kinds.TrapCause.TheVariants.{Return}
use Rattle.cl_tree.specs.declared.tree.Declarator.{Declarator}
use Rattle.cl_tree.specs.declared.tree.Stmt.{Stmt, fold-Stmt}
use Rattle.cl_tree.specs.declared.tree.Act.{Act-F}
use Rattle.cl_tree.specs.declared.tree.Act.TheOpen as act
use Rattle.cl_mean.specs.Shape.{Shape, nothing, Structs, shape_of, count_of}
use Rattle.cl_mean.specs.Source.{Parameter, Definition}
use Rattle.en_image.specs.declared.image.Entrance.{Entrance}
use Rattle.en_image.specs.declared.instr.Instr.{Instr}
use Rattle.en_image.specs.declared.instr.Instr.TheVariants as instr
use Rattle.code_forms.specs.declared.storage.Storage.{Storage}
use Rattle.code_forms.specs.declared.storage.Storage.TheVariants.{Local, Borrowed}
use Rattle.code_forms.specs.Layout.{is_array, width_of, widths, counts, lent_counts, Bound, bound, Facts}
use Rattle.code_forms.specs.Pieces.{Part, fixed}
use Rattle.code_forms.specs.Statements.{Routine, Names, walk, in_turn}

-- ---- the cells of the locals

abbrev pub declared_cells : Structs → List Declarator → ℕ
declared_cells structs [] = 0
declared_cells structs (d ∷ ds) = count_of (shape_of structs d.ctype) + declared_cells structs ds

abbrev pub maybe_cells : Option ℕ → ℕ
maybe_cells None = 0
maybe_cells (Some n) = n

abbrev pub act_cells : Structs → Act-F ℕ ℕ → ℕ
act_cells structs (act.Block ss) = sum ss
act_cells structs (act.If test a b) = a + maybe_cells b
act_cells structs (act.While test s) = s
act_cells structs (act.DoWhile s test) = s
act_cells structs (act.For first test next s) = maybe_cells first + (s + maybe_cells next)
act_cells structs (act.Declare d) = if d.is_static then 0 else declared_cells structs d.names
act_cells structs _ = 0

-- the cells of the locals that a statement declares, each with its own
unfoldable pub cells_in : Structs → Stmt → ℕ
cells_in structs = fold-Stmt ℕ ℕ (act_cells structs) (λ s. s.node)

-- ---- parameters

-- an array's cell keeps the address of the caller's cells
abbrev pub storage_of : Shape → ℕ → Storage
storage_of shape cell = if is_array shape then Borrowed cell else Local cell

abbrev pub with_param : Parameter → Names → Names
with_param p ns = record { known = bound p.name p.shape (storage_of p.shape ns.cells) ∷ ns.known; cells = ns.cells + width_of p.shape; statics = ns.statics }

unfoldable pub with_params : List Parameter → Names → Names
with_params [] ns = ns
with_params (p ∷ ps) ns = with_params ps (with_param p ns)

abbrev pub shapes_of : List Parameter → List Shape
shapes_of ps = map (λ p. p.shape) ps

-- ---- a function

-- its parameters are the first cells of its frame, and its locals the next ones
abbrev pub routine_of : Facts → List Bound → Definition → Routine
routine_of facts statics d = record {
  facts = facts;
  frame = widths (shapes_of d.params) + sum (map (cells_in facts.structs) d.body);
  result = d.result;
  statics = statics;
}

-- where parameters, and the names at file level, are known
abbrev pub first_names : List Bound → List Parameter → Names
first_names globals params = with_params params (record { known = globals; cells = 0; statics = 0 })

abbrev pub body_part : Routine → List Bound → Definition → Part
body_part r globals d = (in_turn (map (walk r) d.body) (first_names globals d.params)).0

-- the end of a body: the end of a function without a result, and a trap in one with a result
abbrev pub end_by : Shape → ℕ → List Instr
end_by nothing line = instr.Return 0 ∷ []
end_by _ line = instr.Halt Return line ∷ []

-- that of `main` gives 0, and nothing calls it but its start
abbrev pub is_main : Definition → Bool
is_main d = bytes_eq d.name (codes "main")

abbrev pub end_code : Definition → List Instr
end_code d = if is_main d then instr.Push (pos 0) ∷ instr.Return 1 ∷ [] else end_by d.result d.line

abbrev pub end_height : Definition → ℕ
end_height d = if is_main d then 1 else 0

abbrev pub function_size : Part → Definition → ℕ → ℕ
function_size body d at = length (body.code at) + length (end_code d)

abbrev pub function_code : Part → Definition → ℕ → List Instr
function_code body d at = map fixed (body.code at) ++ end_code d

abbrev pub function_entrance : Routine → Part → Definition → ℕ → Entrance
function_entrance r body d at = record {
  at = at;
  cells = r.frame + max body.height (end_height d);
  line = d.line;
  params = widths (shapes_of d.params);
  locals = sum (map (cells_in r.facts.structs) d.body);
}

-- ---- where a function is begun

-- the arguments, of which the first cells of the frame are the values: an array is lent its cells there
abbrev pub given_code : Shape → ℕ → List Instr
given_code shape cell = instr.Local cell ∷ (if is_array shape then [] else instr.Fetch (count_of shape) ∷ [])

abbrev pub all_given : List Shape → ℕ → List Instr
all_given [] cell = []
all_given (s ∷ ss) cell = given_code s cell ++ all_given ss (cell + count_of s)

-- the arrays behind the call
abbrev pub array_code : Shape → ℕ → List Instr
array_code shape cell = if is_array shape then instr.Local cell ∷ instr.Fetch (count_of shape) ∷ [] else []

abbrev pub all_arrays : List Shape → ℕ → List Instr
all_arrays [] cell = []
all_arrays (s ∷ ss) cell = array_code s cell ++ all_arrays ss (cell + count_of s)

-- A run begins with the values of a request, and ends with those of the reply: of the result, and then of the arrays.
abbrev pub start_code : Definition → List Instr
start_code d = all_given (shapes_of d.params) 0 ++ (instr.Call d.index d.line
    ∷ (all_arrays (shapes_of d.params) 0 ++ instr.Return (count_of d.result + lent_counts (shapes_of d.params)) ∷ []))

abbrev pub start_entrance : Definition → ℕ → Entrance
start_entrance d at = record {
  at = at;
  cells = counts (shapes_of d.params) + max (widths (shapes_of d.params)) (count_of d.result + lent_counts (shapes_of d.params));
  line = d.line;
  params = counts (shapes_of d.params);
  locals = 0;
}
