-- E21: an object, a function's locals, all objects of static duration, or a count passes its limit.
use Rattle.std.specs.Prelude.{ℕ, ◌+◌, ◌*◌, List, [], ◌∷◌, ◌++◌, map, sum, Bool, ◌&&◌, nat_le, Option, Some, None, unwrap_or, if◌then◌else◌, bytes_eq}
use Rattle.std.specs.List.{flat_map}
use Rattle.cl_tree.specs.declared.token.Pragma.{Pragma}
use Rattle.cl_tree.specs.declared.token.Pragma.TheVariants as pragma
use Rattle.cl_tree.specs.declared.tree.CType.{CType, CType-F, fold-CType}
use Rattle.cl_tree.specs.declared.tree.CType.TheOpen as ctype
use Rattle.cl_tree.specs.declared.tree.Declarator.{Declarator}
use Rattle.cl_tree.specs.declared.tree.Declaration.{Declaration}
use Rattle.cl_tree.specs.declared.tree.Stmt.{Stmt, fold-Stmt}
use Rattle.cl_tree.specs.declared.tree.Act.{Act-F}
use Rattle.cl_tree.specs.declared.tree.Act.TheOpen as act
use Rattle.cl_tree.specs.declared.tree.Item.{Item}
use Rattle.cl_tree.specs.declared.tree.Item.TheVariants as item
use Rattle.cl_tree.specs.declared.tree.Program.{Program}
use Rattle.cl_tree.specs.Words.{Word}
use Rattle.cl_typing.specs.Rules.{Lines, unless}
use Rattle.cl_typing.specs.declared.totals.Totals.{Totals}

-- ---- how many integers a type has

pub record Size : Type 0 where
  pub tag : Word
  pub integers : ℕ

abbrev pub size_entry : Word → ℕ → Size
size_entry tag integers = record { tag = tag; integers = integers }

-- the integers of a struct, the latest of its tag
unfoldable pub known_size : List Size → Word → Option ℕ
known_size [] tag = None
known_size (s ∷ ss) tag = if bytes_eq s.tag tag then Some s.integers else known_size ss tag

abbrev pub size_of_tag : List Size → Word → ℕ
size_of_tag sizes tag = unwrap_or (known_size sizes tag) 0

abbrev pub size_step : List Size → CType-F ℕ → ℕ
size_step sizes (ctype.Integer kind) = 1
size_step sizes (ctype.Struct tag) = size_of_tag sizes tag
size_step sizes (ctype.Array t n) = n * t
size_step sizes _ = 0

unfoldable pub size_of : List Size → CType → ℕ
size_of sizes = fold-CType ℕ (size_step sizes)

unfoldable pub size_of_all : List Size → List Declarator → ℕ
size_of_all sizes [] = 0
size_of_all sizes (d ∷ ds) = size_of sizes d.ctype + size_of_all sizes ds

unfoldable pub size_of_members : List Size → List Declaration → ℕ
size_of_members sizes [] = 0
size_of_members sizes (m ∷ ms) = size_of_all sizes m.names + size_of_members sizes ms

-- ---- the integers of a function's locals; an object of static duration is none

abbrev pub all_of : List ℕ → ℕ
all_of sizes = sum sizes

abbrev pub maybe_size : Option ℕ → ℕ
maybe_size None = 0
maybe_size (Some n) = n

unfoldable pub declared_size : List Size → Declaration → ℕ
declared_size sizes d = if d.is_static then 0 else size_of_all sizes d.names

abbrev pub act_locals : List Size → Act-F ℕ ℕ → ℕ
act_locals sizes (act.Block ss) = all_of ss
act_locals sizes (act.If c s other) = s + maybe_size other
act_locals sizes (act.While c s) = s
act_locals sizes (act.DoWhile s c) = s
act_locals sizes (act.For first test next s) = maybe_size first + (maybe_size next + s)
act_locals sizes (act.Declare d) = declared_size sizes d
act_locals sizes _ = 0

unfoldable pub stmt_locals : List Size → Stmt → ℕ
stmt_locals sizes = fold-Stmt ℕ ℕ (act_locals sizes) (λ s. s.node)

-- ---- what is counted

-- A thing that a limit counts, and its line: a struct, a definition of a label, a function that is defined, with the
-- integers of its parameters and locals, or an object of static duration, with its integers.
pub data Counted : Type 0 where
  a_struct : ℕ → Counted
  a_label : ℕ → Counted
  a_function : ℕ → ℕ → Counted
  an_object : ℕ → ℕ → Counted

unfoldable pub of_pragma : Pragma → ℕ → List Counted
of_pragma (pragma.Def name text) line = a_label line ∷ []
of_pragma _ line = []

-- an object's line is that of its declaration's first token
unfoldable pub objects : List Size → List Declarator → List Counted
objects sizes ds = map (λ d. an_object d.second (size_of sizes d.ctype)) ds

unfoldable pub declared_objects : List Size → Declaration → List Counted
declared_objects sizes d = if d.is_static then objects sizes d.names else []

abbrev pub maybe_counted : Option (List Counted) → List Counted
maybe_counted None = []
maybe_counted (Some cs) = cs

abbrev pub act_counted : List Size → Act-F (ℕ → List Counted) (List Counted) → ℕ → List Counted
act_counted sizes (act.Block ss) line = flat_map (λ cs. cs) ss
act_counted sizes (act.If c s other) line = s ++ maybe_counted other
act_counted sizes (act.While c s) line = s
act_counted sizes (act.DoWhile s c) line = s
act_counted sizes (act.For first test next s) line = maybe_counted first ++ (maybe_counted next ++ s)
act_counted sizes (act.Declare d) line = declared_objects sizes d
act_counted sizes (act.Cle p) line = of_pragma p line
act_counted sizes _ line = []

unfoldable pub stmt_counted : List Size → Stmt → List Counted
stmt_counted sizes = fold-Stmt (ℕ → List Counted) (List Counted) (act_counted sizes) (λ s. s.node s.line)

-- the integers of parameters and locals, all declarations together
unfoldable pub body_size : List Size → List Declarator → List Stmt → ℕ
body_size sizes params ss = size_of_all sizes params + sum (map (stmt_locals sizes) ss)

unfoldable pub body_counted : List Size → List Declarator → Option (List Stmt) → ℕ → List Counted
body_counted sizes params None line = []
body_counted sizes params (Some ss) line =
    a_function line (body_size sizes params ss) ∷ flat_map (λ cs. cs) (map (stmt_counted sizes) ss)

unfoldable pub in_item : List Size → Item → List Counted
in_item sizes (item.Struct name members line) = a_struct line ∷ []
in_item sizes (item.Variables d) = objects sizes d.names
in_item sizes (item.Function is_static result name void_word params body line second) =
    body_counted sizes params body line
in_item sizes (item.Cle p line) = of_pragma p line

unfoldable pub sizes_after : List Size → Item → List Size
sizes_after sizes (item.Struct name members line) = size_entry name (size_of_members sizes members) ∷ sizes
sizes_after sizes _ = sizes

unfoldable pub in_items : List Size → List Item → List Counted
in_items sizes [] = []
in_items sizes (i ∷ is) = in_item sizes i ++ in_items (sizes_after sizes i) is

-- ---- the limits

abbrev pub totals_after : Totals → Counted → Totals
totals_after t (a_struct line) = record t { structs = t.structs + 1 }
totals_after t (a_label line) = record t { definitions = t.definitions + 1 }
totals_after t (a_function line size) = record t { functions = t.functions + 1 }
totals_after t (an_object line size) = record t { objects = t.objects + 1; integers = t.integers + size }

-- the limits that a thing can pass, by itself or with those of its kind before it
abbrev pub within : Totals → Counted → Bool
within t (a_struct line) = nat_le t.structs 256
within t (a_label line) = nat_le t.definitions 1024
within t (a_function line size) = nat_le t.functions 4096 && nat_le size 8192
within t (an_object line size) = nat_le t.objects 4096 && (nat_le size 65536 && nat_le t.integers 1048576)

abbrev pub line_of : Counted → ℕ
line_of (a_struct line) = line
line_of (a_label line) = line
line_of (a_function line size) = line
line_of (an_object line size) = line

unfoldable pub over : Totals → List Counted → Lines
over t [] = []
over t (c ∷ cs) = unless (within (totals_after t c) c) (line_of c) ++ over (totals_after t c) cs

abbrev pub no_totals : Totals
no_totals = record { structs = 0; definitions = 0; functions = 0; objects = 0; integers = 0 }

unfoldable pub too_large : Program → Lines
too_large program = over no_totals (in_items [] program.items)
