-- The reader on lists and trees, which only private contracts cite.
use Rattle.std.specs.Prelude.{ℕ, List, [], ◌∷◌, length, take, drop, ◌-◌, Option, Some, None, is_none, Bool, true, false, not, ◌&&◌, ◌==◌, ◌≡◌, Result, Ok, Err, if◌then◌else◌, bytes_eq, codes}
use Rattle.std.specs.List.{list_all, list_any}
use Rattle.cl_tree.specs.declared.token.Pragma.TheVariants.{Def, Next}
use Rattle.cl_tree.specs.declared.tree.CType.{CType, CType-F, out-CType}
use Rattle.cl_tree.specs.declared.tree.CType.TheOpen as ctype
use Rattle.cl_tree.specs.declared.tree.Stmt.{Stmt}
use Rattle.cl_tree.specs.declared.tree.Declarator.{Declarator}
use Rattle.cl_tree.specs.declared.tree.Item.{Item}
use Rattle.cl_tree.specs.declared.tree.Item.TheVariants.{Variables, Function, Cle}
use Rattle.cl_tree.specs.declared.tree.Program.{Program}
use Rattle.cl_tree.specs.Words.{Word}
use Rattle.cl_mean.specs.declared.checked.Checked.{Checked}
use Rattle.cl_form.specs.declared.names.Alone.{Alone}
use Rattle.cl_form.specs.declared.names.Pair.{Pair}
use Rattle.cl_form.specs.declared.names.Found.{Found}
use Rattle.cl_form.specs.declared.stop.FormStop.{FormStop}
use Rattle.cl_form.specs.declared.stop.FormStop.TheVariants.{NoReading, NoMemory}
use Rattle.cl_form.specs.Form.{is_plain_text, is_level, level_text, pair_text, def_line, head_lines, is_int, is_main_statement, is_other_statement, ends_in_return, statement_calls, is_pair, alone_checked, pair_checked}

infixl 10 ◌>>=◌
abbrev pub ◌>>=◌ : {A B : Type 0} → Option A → (A → Option B) → Option B
None >>= f = None
(Some x) >>= f = f x

-- the value, where the test holds
abbrev pub where_true : {A : Type 0} → Bool → A → Option A
where_true true x = Some x
where_true false x = None

-- What a function returned, seen by view, is what reading gives, unless memory ran out.
abbrev pub Fails : {Y : Type 0} → FormStop → Option Y → Type 0
Fails NoMemory read = Unit {0}
Fails NoReading read = read ≡ None

abbrev pub Gives : {X Y : Type 0} → (X → Y) → Result X FormStop → Option Y → Type 0
Gives view (Ok x) read = read ≡ Some (view x)
Gives view (Err e) read = Fails e read

abbrev pub Finds : {X Y : Type 0} → (X → Y) → Option X → Option Y → Type 0
Finds view None read = read ≡ None
Finds view (Some x) read = read ≡ Some (view x)

-- ---- texts

-- what follows a text that stands first
unfoldable pub behind : List ℕ → List ℕ → Option (List ℕ)
behind part text = where_true (bytes_eq (take (length part) text) part) (drop (length part) text)

-- what stands before a text that stands last
unfoldable pub before : List ℕ → List ℕ → Option (List ℕ)
before part text = where_true (bytes_eq (drop (length text - length part) text) part) (take (length text - length part) text)

abbrev pub checked_level : Word → Option Word
checked_level level = where_true (is_level level) level

-- the level of a text `{"level":"LEVEL"}`
unfoldable pub level_of : List ℕ → Option Word
level_of text = behind (codes "{\"level\":\"") text >>= λ rest. before (codes "\"}") rest >>= checked_level

abbrev pub plain_rest : Option (List ℕ) → Bool
plain_rest None = false
plain_rest (Some rest) = is_plain_text rest

-- The source is the head, and then plain text.
unfoldable pub is_headed : List ℕ → List ℕ → Bool
is_headed head source = plain_rest (behind head source)

-- ---- items

abbrev pub is_int_layer : CType-F CType → Bool
is_int_layer (ctype.Integer kind) = is_int kind
is_int_layer _ = false

abbrev pub is_int_type : CType → Bool
is_int_type t = is_int_layer (out-CType t)

-- the name and the text of a `def` line that is this line
abbrev pub def_at : ℕ → Item → Option (Word × List ℕ)
def_at n (Cle (Def name text) line) = where_true (line == n) (name, text)
def_at n _ = None

abbrev pub is_def : ℕ → Word → List ℕ → Item → Bool
is_def n name text (Cle (Def called as_text) line) = line == n && (bytes_eq called name && bytes_eq as_text text)
is_def n name text _ = false

abbrev pub is_next : ℕ → Word → Item → Bool
is_next n name (Cle (Next called) line) = line == n && bytes_eq called name
is_next n name _ = false

-- the label and the level of a line that defines a label of a level
unfoldable pub level_def : ℕ → Item → Option (Word × Word)
level_def n item = def_at n item >>= λ x. level_of x.1 >>= λ level. Some (x.0, level)

-- `NAME;` of an `int`, on line 6
abbrev pub plain_name : Declarator → Option Word
plain_name d = where_true (is_int_type d.ctype && (is_none d.init && (d.line == 6 && d.second == 6))) d.name

abbrev pub one_name : List Declarator → Option Word
one_name (d ∷ []) = plain_name d
one_name _ = None

abbrev pub variable_of : Item → Option Word
variable_of (Variables d) = if d.is_static then None else one_name d.names
variable_of _ = None

-- `int NAME(void) { .. }`: the name, its line, and the statements
abbrev pub function_of : Item → Option (Word × ℕ × List Stmt)
function_of (Function is_static result name void_word [] (Some body) line second) = where_true (not is_static && (is_int_type result && void_word)) (name, second, body)
function_of _ = None

-- ---- programs

abbrev pub is_main : Option Word → Word → List Stmt → Bool
is_main function name body = bytes_eq name (codes "main") && list_all (is_main_statement function) body

unfoldable pub alone_of : List Item → Option Alone
alone_of (label ∷ main ∷ []) =
    level_def 1 label >>= λ x. function_of main >>= λ m. where_true (is_main None m.0 m.2) (record { label = x.0; level = x.1; line = m.1 })
alone_of _ = None

unfoldable pub read_alone : List ℕ → Program → Option Checked
read_alone source program =
    alone_of program.items >>= λ a. where_true (is_headed (def_line a.label (level_text a.level)) source) (alone_checked program a.level a.line)

abbrev pub label_at : ℕ → Item → Option Word
label_at n item = def_at n item >>= λ x. Some x.0

abbrev pub function_name : Item → Option Word
function_name item = function_of item >>= λ x. Some x.0

-- the names that the items hold; what else they say of them is tested by `is_bound`
unfoldable pub names_of : Item → Item → Item → Item → Item → Item → Option Pair
names_of near variable result function a f =
    level_def 1 near >>= λ n. level_def 2 variable >>= λ v. label_at 3 result >>= λ r. label_at 4 function >>= λ l. variable_of a >>= λ x. function_name f >>= λ g.
    Some (record { near = n.1; far = v.1; near_label = n.0; variable_label = v.0; result_label = r; function_label = l; variable_name = x; function_name = g })

-- the lines of the result, of the function's label, and of the labels of the next items
unfoldable pub is_bound : Pair → Item → Item → Item → Item → Bool
is_bound p result function next_variable next_function =
    is_def 3 p.result_label (level_text p.near) result && (is_def 4 p.function_label (pair_text p) function
    && (is_next 5 p.variable_label next_variable && is_next 7 p.function_label next_function))

-- the names, if a source of two levels can have them and the lines say what they want
unfoldable pub bound : Pair → Item → Item → Item → Item → Option Pair
bound p result function next_variable next_function = where_true (is_pair p && is_bound p result function next_variable next_function) p

abbrev pub is_other : Word → List Stmt → Bool
is_other a body = list_all (is_other_statement a) body && ends_in_return body

-- the lines of the names of the functions, and whether `main` calls the other one
unfoldable pub functions_of : Pair → Item → Item → Option Found
functions_of p f main =
    function_of f >>= λ x. function_of main >>= λ m.
    where_true (is_other p.variable_name x.2 && is_main (Some p.function_name) m.0 m.2) (record { names = p; line = x.1; main_line = m.1; crosses = list_any statement_calls m.2 })

unfoldable pub pair_of : List Item → Option Found
pair_of (near ∷ variable ∷ result ∷ function ∷ next_variable ∷ a ∷ next_function ∷ f ∷ main ∷ []) =
    names_of near variable result function a f >>= λ p. bound p result function next_variable next_function >>= λ p. functions_of p f main
pair_of _ = None

unfoldable pub read_pair : List ℕ → Program → Option Checked
read_pair source program =
    pair_of program.items >>= λ x. where_true (is_headed (head_lines x.names) source) (pair_checked program x.names x.line x.main_line x.crosses)

-- A program of two items can only be of one level, and one of nine items only of two.
unfoldable pub read_program : List ℕ → Program → Option Checked
read_program source program = if length program.items == 2 then read_alone source program else read_pair source program
