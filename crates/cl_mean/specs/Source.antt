-- What a checked source says about its names: the functions, the objects of static duration, the rows of the calls across levels.
use Rattle.std.specs.Prelude.{ℕ, zero, suc, Bool, true, false, nat_lt, ◌==◌, ◌&&◌, List, [], ◌∷◌, ◌++◌, map, length, filter, Option, Some, None, slice_index_or, if◌then◌else◌, bytes_eq, codes}
use Rattle.std.specs.List.{flat_map}
use Rattle.cl_tree.specs.declared.tree.Declarator.{Declarator}
use Rattle.cl_tree.specs.declared.tree.Stmt.{Stmt, fold-Stmt}
use Rattle.cl_tree.specs.declared.tree.Act.{Act-F}
use Rattle.cl_tree.specs.declared.tree.Act.TheOpen as act
use Rattle.cl_tree.specs.declared.tree.Init.{Init}
use Rattle.cl_tree.specs.declared.tree.Item.{Item}
use Rattle.cl_tree.specs.declared.tree.Item.TheVariants.{Function, Variables}
use Rattle.cl_tree.specs.Words.{Word}
use Rattle.cl_mean.specs.declared.labels.Mention.{Mention}
use Rattle.cl_mean.specs.declared.labels.Mention.TheVariants.{Label, Level}
use Rattle.cl_mean.specs.declared.labels.Mentions.{Mentions}
use Rattle.cl_mean.specs.declared.labels.Taints.{Taints}
use Rattle.cl_mean.specs.declared.labels.Entry.{Entry}
use Rattle.cl_mean.specs.declared.labels.LabelFact.{LabelFact}
use Rattle.cl_mean.specs.declared.checked.FnFact.{FnFact}
use Rattle.cl_mean.specs.declared.checked.ObjFact.{ObjFact}
use Rattle.cl_mean.specs.declared.checked.GedlRow.{GedlRow}
use Rattle.cl_mean.specs.declared.checked.Checked.{Checked}
use Rattle.cl_mean.specs.Value.{once}
use Rattle.cl_mean.specs.Shape.{Shape, struct, array, Members, no_members, member, Structs, structs_of, shape_of, kinds_of, total_size, times, count_of}
use Rattle.cl_mean.specs.State.{Place}

-- ---- names

-- What a store through a name does to labels, beside the object's own.
pub data Root : Type 0 where
  -- the labels of what is stored
  open_to_all : Root
  -- a parameter of an annotated function: just its taints
  admits : List Mention → Root
  -- an annotated variable: in the body of an annotated function just its own label
  labelled : Root

-- What a name means: its type, where it lies, and the labels of the indexes by which it was lent, which each read of it carries.
pub record Binding : Type 0 where
  pub name : Word
  pub shape : Shape
  pub place : Place
  pub labels : List Mention
  pub root : Root

-- the names that are known, the innermost first
abbrev pub Env : Type 0
Env = List Binding

unfoldable pub binding_of : Env → Word → Option Binding
binding_of [] name = None
binding_of (b ∷ env) name = if bytes_eq b.name name then Some b else binding_of env name

-- ---- levels and labels of what is declared

-- a level that isn't there: that of what has none
abbrev pub nowhere : Checked → ℕ
nowhere checked = length checked.labels.levels

-- the k-th level of a table
abbrev pub level_among : Checked → List ℕ → ℕ → ℕ
level_among checked levels k = slice_index_or levels k (nowhere checked)

-- a label that isn't there: that of an item of which the table says nothing
abbrev pub lost_label : Checked → Option ℕ
lost_label checked = Some (length checked.labels.labels)

-- the k-th label of a table
abbrev pub label_in : Checked → List (Option ℕ) → ℕ → Option ℕ
label_in checked labels k = slice_index_or labels k (lost_label checked)

-- what has a label that isn't there lies nowhere
abbrev pub level_by : Checked → Option ℕ → ℕ → ℕ
level_by checked None level = level
level_by checked (Some k) level = if nat_lt k (length checked.labels.labels) then level else nowhere checked

-- ---- objects of static duration

abbrev pub maybe_all : Option (List Declarator) → List Declarator
maybe_all None = []
maybe_all (Some ds) = ds

abbrev pub if_static : Bool → List Declarator → List Declarator
if_static true names = names
if_static false names = []

-- the static locals that are declared in a statement, in the order of the source
abbrev pub act_statics : Act-F (List Declarator) (List Declarator) → List Declarator
act_statics (act.Block all) = flat_map (λ s. s) all
act_statics (act.If test a b) = a ++ maybe_all b
act_statics (act.While test body) = body
act_statics (act.DoWhile body test) = body
act_statics (act.For first test next body) = body
act_statics (act.Declare d) = if_static d.is_static d.names
act_statics _ = []

unfoldable pub statics_in : Stmt → List Declarator
statics_in = fold-Stmt (List Declarator) (List Declarator) act_statics (λ s. s.node)

abbrev pub body_statics : Option (List Stmt) → List Declarator
body_statics None = []
body_statics (Some body) = flat_map statics_in body

-- the declarators of all objects of static duration, in the order of the source
abbrev pub item_statics : Item → List Declarator
item_statics (Variables d) = d.names
item_statics (Function _ _ _ _ _ body _ _) = body_statics body
item_statics _ = []

-- an object of static duration: its owner if it is a static local, its binding, its own labels, its initialiser
pub record Static : Type 0 where
  pub owner : Option ℕ
  pub binding : Binding
  pub own : List Mention
  pub init : Option Init

abbrev pub own_of : Option ℕ → ℕ → List Mention
own_of None level = Level level ∷ []
own_of (Some label) level = Label label ∷ []

abbrev pub root_of : Option ℕ → Root
root_of None = open_to_all
root_of (Some label) = labelled

abbrev pub init_of : List Declarator → Option Init
init_of [] = None
init_of (d ∷ ds) = d.init

abbrev pub rest_of : {A : Type 0} → List A → List A
rest_of [] = []
rest_of (x ∷ xs) = xs

-- the level of an object: one that no declarator declares lies nowhere
abbrev pub level_of_object : Checked → ℕ → List Declarator → ℕ
level_of_object checked k [] = nowhere checked
level_of_object checked k (d ∷ ds) =
    level_by checked (label_in checked checked.labels.on_objects k) (level_among checked checked.levels.of_objects k)

-- The objects of a level are numbered in the order of the source: `seen` has the levels of the objects before.
unfoldable pub statics_from : Checked → Structs → ℕ → List ℕ → List ObjFact → List Declarator → List Static
statics_from checked structs k seen [] ds = []
statics_from checked structs k seen (o ∷ os) ds =
    static_at (level_of_object checked k ds) (label_in checked checked.labels.on_objects k)
    ∷ statics_from checked structs (suc k) (level_of_object checked k ds ∷ seen) os (rest_of ds)
  where
    static_at : ℕ → Option ℕ → Static
    static_at level label = record {
      owner = o.owner;
      binding = record { name = o.name; shape = shape_of structs o.ctype; place = record { level = level; object = length (filter (λ m. m == level) seen); path = [] }; labels = []; root = root_of label };
      own = own_of label level;
      init = init_of ds;
    }

-- ---- functions

pub record Parameter : Type 0 where
  pub name : Word
  pub shape : Shape
  pub root : Root

-- A function: its number, its level, its taints if it is annotated, its static locals in the order of the source.
pub record Definition : Type 0 where
  pub index : ℕ
  pub name : Word
  pub line : ℕ
  pub level : ℕ
  pub taints : Option Taints
  pub entries : List Entry
  pub result : Shape
  pub params : List Parameter
  pub body : List Stmt
  pub statics : List Binding

abbrev pub is_annotated : Definition → Bool
is_annotated d = is_some d.taints
  where
    is_some : Option Taints → Bool
    is_some None = false
    is_some (Some t) = true

abbrev pub no_mentions : Mentions
no_mentions = record { all = [] }

-- the root of a parameter, by its place
abbrev pub parameter_root : Option Taints → ℕ → Root
parameter_root None k = open_to_all
parameter_root (Some t) k = admits (once (slice_index_or t.args k no_mentions).all)

abbrev pub parameters_of : Structs → Option Taints → ℕ → List Declarator → List Parameter
parameters_of structs taints k [] = []
parameters_of structs taints k (d ∷ ds) = record { name = d.name; shape = shape_of structs d.ctype; root = parameter_root taints k } ∷ parameters_of structs taints (suc k) ds

abbrev pub is_owned_by : ℕ → Static → Bool
is_owned_by index s = is_owner s.owner
  where
    is_owner : Option ℕ → Bool
    is_owner None = false
    is_owner (Some f) = f == index

abbrev pub label_at : List LabelFact → Option ℕ → Option LabelFact
label_at labels None = None
label_at [] (Some k) = None
label_at (l ∷ ls) (Some zero) = Some l
label_at (l ∷ ls) (Some (suc k)) = label_at ls (Some k)

-- the level of a label, if it is one
abbrev pub level_of : List LabelFact → Mention → Option ℕ
level_of labels (Level level) = Some level
level_of labels (Label k) = label_level (label_at labels (Some k))
  where
    label_level : Option LabelFact → Option ℕ
    label_level None = None
    label_level (Some label) = Some label.level

abbrev pub taints_of : Option LabelFact → Option Taints
taints_of None = None
taints_of (Some label) = label.taints

abbrev pub entries_of : Option LabelFact → List Entry
entries_of None = []
entries_of (Some label) = label.entries

-- an annotated function has a list of labels for each parameter
abbrev pub is_counted : Option Taints → List Declarator → Bool
is_counted None params = true
is_counted (Some t) params = length t.args == length params

abbrev pub if_counted : Bool → Definition → List Definition
if_counted true d = d ∷ []
if_counted false d = []

-- the definition of a function, where its item has a body
unfoldable pub definition_of : Structs → List Static → ℕ → FnFact → ℕ → Option LabelFact → Item → List Definition
definition_of structs statics index fact level label (Function _ result name _ params (Some body) _ _) =
    if_counted (is_counted (taints_of label) params) (record {
      index = index;
      name = name;
      line = fact.line;
      level = level;
      taints = taints_of label;
      entries = entries_of label;
      result = shape_of structs result;
      params = parameters_of structs (taints_of label) 0 params;
      body = body;
      statics = map (λ s. s.binding) (filter (is_owned_by index) statics);
    })
definition_of structs statics index fact level label _ = []

abbrev pub no_item : Item
no_item = Variables (record { is_static = false; names = [] })

abbrev pub label_of_function : Checked → ℕ → Option ℕ
label_of_function checked k = label_in checked checked.labels.on_functions k

abbrev pub level_of_function : Checked → ℕ → ℕ
level_of_function checked k =
    level_by checked (label_of_function checked k) (level_among checked checked.levels.of_functions k)

unfoldable pub definitions_from : Checked → Structs → List Static → ℕ → List FnFact → List Definition
definitions_from checked structs statics k [] = []
definitions_from checked structs statics k (f ∷ fs) =
    definition_of structs statics k f (level_of_function checked k)
    (label_at checked.labels.labels (label_of_function checked k)) (slice_index_or checked.typed.program.items f.item no_item)
    ++ definitions_from checked structs statics (suc k) fs

-- the function of a name, if there is one
unfoldable pub function_named : List Definition → Word → Option Definition
function_named [] name = None
function_named (d ∷ ds) name = if bytes_eq d.name name then Some d else function_named ds name

-- the function of a number, if there is one
unfoldable pub function_at : List Definition → ℕ → Option Definition
function_at [] k = None
function_at (d ∷ ds) k = if d.index == k then Some d else function_at ds k

-- ---- the source

pub record Source : Type 0 where
  pub structs : Structs
  pub functions : List Definition
  pub statics : List Static
  pub globals : Env
  pub rows : List GedlRow

abbrev pub is_global : Static → Bool
is_global s = is_unowned s.owner
  where
    is_unowned : Option ℕ → Bool
    is_unowned None = true
    is_unowned (Some f) = false

unfoldable pub source_of : Checked → Source
source_of checked =
    let structs = structs_of checked.typed.program.items in
    let names = flat_map item_statics checked.typed.program.items in
    let statics = statics_from checked structs 0 [] checked.typed.objects names in
    record {
      structs = structs;
      functions = definitions_from checked structs statics 0 checked.typed.functions;
      statics = statics;
      globals = map (λ s. s.binding) (filter is_global statics);
      rows = checked.gedl.rows;
    }

-- the names at file level that the functions of a level use: variables of that level
abbrev pub known_at : Source → ℕ → Env
known_at source level = filter (λ b. b.place.level == level) source.globals

abbrev pub main_of : Source → Option Definition
main_of source = function_named source.functions (codes "main")

abbrev pub is_at : ℕ → Option Definition → Bool
is_at level None = false
is_at level (Some d) = d.level == level

-- `main` is a function of a level
abbrev pub is_main_at : Source → ℕ → Bool
is_main_at source level = is_at level (main_of source)

-- ---- rows

-- the number of the row by which a level calls a function, counted from a number on
unfoldable pub row_from : ℕ → List GedlRow → ℕ → ℕ → Option ℕ
row_from k [] level function = None
row_from k (row ∷ rows) level function = if (row.from == level) && (row.function == function) then Some k else row_from (suc k) rows level function

abbrev pub row_of : Source → ℕ → Definition → Option ℕ
row_of source level callee = row_from 0 source.rows level callee.index

-- A request is a struct of the parameters, a reply one of the result and then the array parameters.
abbrev pub request_members : List Parameter → Members
request_members [] = no_members
request_members (p ∷ ps) = member p.name p.shape (request_members ps)

abbrev pub array_members : List Parameter → Members
array_members [] = no_members
array_members (p ∷ ps) = if_array p.shape (array_members ps)
  where
    if_array : Shape → Members → Members
    if_array (array element size) rest = member p.name (array element size) rest
    if_array _ rest = rest

abbrev pub request_of : Definition → Shape
request_of d = struct (request_members d.params)

abbrev pub reply_of : Definition → Shape
reply_of d = struct (member (codes "return") d.result (array_members d.params))

abbrev pub payload_of : Definition → Bool → Shape
payload_of d false = request_of d
payload_of d true = reply_of d

-- how many bytes a payload has
abbrev pub payload_size : Definition → Bool → ℕ
payload_size d reply = total_size (kinds_of (payload_of d reply))

-- ---- what the entry of a call admits

-- the taints of a parameter of an annotated function
abbrev pub taints_in : Root → List Mention
taints_in (admits taints) = taints
taints_in _ = []

abbrev pub result_taints : Option Taints → List Mention
result_taints None = []
result_taints (Some t) = once t.result

-- the labels, for each integer of a value
abbrev pub each_admitted : Shape → List Mention → List (List Mention)
each_admitted shape labels = times (count_of shape) (labels ∷ [])

abbrev pub request_admitted : List Parameter → List (List Mention)
request_admitted [] = []
request_admitted (p ∷ ps) = each_admitted p.shape (taints_in p.root) ++ request_admitted ps

abbrev pub arrays_admitted : List Parameter → List (List Mention)
arrays_admitted [] = []
arrays_admitted (p ∷ ps) = if_array p.shape (arrays_admitted ps)
  where
    if_array : Shape → List (List Mention) → List (List Mention)
    if_array (array element size) rest = each_admitted (array element size) (taints_in p.root) ++ rest
    if_array _ rest = rest

-- The labels that the entry admits for each integer of a request, or of a reply: those of its parameter, or of the result.
unfoldable pub admitted_by : Definition → Bool → List (List Mention)
admitted_by d false = request_admitted d.params
admitted_by d true = each_admitted d.result (result_taints d.taints) ++ arrays_admitted d.params
