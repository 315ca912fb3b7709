-- The two small forms that a run serves so far: which source is of a form, and which checked program it is.
use Rattle.std.specs.Prelude.{ℕ, Bool, true, false, not, ◌&&◌, ◌||◌, ◌==◌, nat_lt, nat_le, List, [], ◌∷◌, ◌++◌, length, slice_index, slice_get, ◌-◌, Option, Some, None, codes, bytes_eq, if◌then◌else◌, ◌≡◌, ◌⊎◌}
use Rattle.std.specs.List.{list_all, list_any, slice_split}
use Rattle.cl_tree.specs.declared.kinds.IntKind.{IntKind}
use Rattle.cl_tree.specs.declared.kinds.IntKind.TheVariants.{I32}
use Rattle.cl_tree.specs.declared.kinds.BinOp.{BinOp}
use Rattle.cl_tree.specs.declared.kinds.BinOp.TheVariants.{Add, Sub, Mul}
use Rattle.cl_tree.specs.declared.token.Pragma.TheVariants.{Def, Next}
use Rattle.cl_tree.specs.declared.tree.CType.TheVariants.{Integer}
use Rattle.cl_tree.specs.declared.tree.Expr.{Expr, fold-Expr}
use Rattle.cl_tree.specs.declared.tree.Node.{Node, Node-F, out-Node}
use Rattle.cl_tree.specs.declared.tree.Node.TheOpen as node
use Rattle.cl_tree.specs.declared.tree.Stmt.{Stmt}
use Rattle.cl_tree.specs.declared.tree.Act.{Act, Act-F, out-Act}
use Rattle.cl_tree.specs.declared.tree.Act.TheOpen as act
use Rattle.cl_tree.specs.declared.tree.Item.{Item}
use Rattle.cl_tree.specs.declared.tree.Item.TheVariants.{Variables, Function, Cle}
use Rattle.cl_tree.specs.declared.tree.Program.{Program}
use Rattle.cl_tree.specs.Letters.{is_letter, is_digit}
use Rattle.cl_tree.specs.Words.{Word, listed, is_cle_word}
use Rattle.cl_mean.specs.declared.labels.Operation.TheVariants.{Allow}
use Rattle.cl_mean.specs.declared.labels.LabelTable.{LabelTable}
use Rattle.cl_mean.specs.declared.checked.Flow.{Flow}
use Rattle.cl_mean.specs.declared.checked.GedlRow.{GedlRow}
use Rattle.cl_mean.specs.declared.checked.GedlRows.{GedlRows}
use Rattle.cl_mean.specs.declared.checked.Typed.{Typed}
use Rattle.cl_mean.specs.declared.checked.Checked.{Checked}
use Rattle.cl_read.specs.Source.{ReadsWithin}
use Rattle.cl_form.specs.declared.names.Pair.{Pair}

-- ---- texts

-- a space, a tab or a newline
abbrev pub is_blank : ℕ → Bool
is_blank b = b == 32 || (b == 9 || b == 10)

-- a letter, a digit or `_`
abbrev pub is_word_byte : ℕ → Bool
is_word_byte b = is_letter b || is_digit b

-- one of `( ) { } ; = + - *`
abbrev pub is_mark : ℕ → Bool
is_mark b = list_any (λ m. m == b) (codes "(){};=+-*")

-- No byte that could begin a comment, a directive, a join, a string or a constant is among these.
unfoldable pub is_plain : ℕ → Bool
is_plain b = is_blank b || (is_word_byte b || is_mark b)

abbrev pub has_needless_zero : Word → Bool
has_needless_zero word = nat_lt 1 (length word) && slice_index word 0 == 48

-- No word but `0` itself begins with a 0, and a type is spelled `int`.
unfoldable pub is_plain_word : Word → Bool
is_plain_word word = not (has_needless_zero word) && not (listed (codes "signed" ∷ codes "int32_t" ∷ []) word)

-- the words of a text, and an empty one between two other bytes
abbrev pub words : List ℕ → List Word
words = slice_split (λ b. not (is_word_byte b))

unfoldable pub is_plain_text : List ℕ → Bool
is_plain_text text = list_all is_plain text && list_all is_plain_word (words text)

-- a letter or a digit
abbrev pub is_level_byte : ℕ → Bool
is_level_byte b = is_word_byte b && not (b == 95)

-- 1 to 32 letters and digits, the first a letter
unfoldable pub is_level : Word → Bool
is_level level = list_all is_level_byte level && (not (length level == 0) && (nat_le (length level) 32 && not (is_digit (slice_index level 0))))

-- the text that defines a label of a level
unfoldable pub level_text : Word → List ℕ
level_text level = codes "{\"level\":\"" ++ (level ++ codes "\"}")

-- the text of the function's label: what it takes, touches and gives, and which level may call it
unfoldable pub function_text : Word → Word → Word → Word → List ℕ
function_text level remote touched given =
    codes "{\"level\":\"" ++ (level ++ (codes "\",\"cdf\":[{\"remotelevel\":\"" ++ (remote ++ (codes "\",\"direction\":\"bidirectional\",\"guarddirective\":{\"operation\":\"allow\"},\"argtaints\":[],\"codtaints\":[\"" ++ (touched ++ (codes "\"],\"rettaints\":[\"" ++ (given ++ codes "\"]}]}")))))))

unfoldable pub def_line : Word → List ℕ → List ℕ
def_line name text = codes "#pragma cle def " ++ (name ++ (codes " " ++ (text ++ codes "\n")))

unfoldable pub next_line : Word → List ℕ
next_line name = codes "#pragma cle " ++ (name ++ codes "\n")

unfoldable pub variable_line : Word → List ℕ
variable_line name = codes "int " ++ (name ++ codes ";\n")

-- ---- expressions and statements

abbrev pub is_int : IntKind → Bool
is_int I32 = true
is_int _ = false

abbrev pub is_sum_operator : BinOp → Bool
is_sum_operator Add = true
is_sum_operator Sub = true
is_sum_operator Mul = true
is_sum_operator _ = false

-- a name that may stand somewhere, if one may
abbrev pub is_it : Option Word → Word → Bool
is_it None name = false
is_it (Some it) name = bytes_eq it name

-- with the variable that an expression may name, and the function that it may call without arguments
abbrev pub node_sum : Option Word → Option Word → Node-F Bool Bool → Bool
node_sum variable function (node.Number value kind) = is_int kind
node_sum variable function (node.Variable name) = is_it variable name
node_sum variable function (node.Call name []) = is_it function name
node_sum variable function (node.Binary op a b) = is_sum_operator op && (a && b)
node_sum variable function (node.Paren e) = e
node_sum variable function _ = false

-- sums, differences and products of `int` literals, of the variable and of calls of the function
unfoldable pub is_sum : Option Word → Option Word → Expr → Bool
is_sum variable function = fold-Expr Bool Bool (node_sum variable function) (λ e. e.node)

-- `putchar(E)`
abbrev pub is_put : Option Word → Node-F Node Expr → Bool
is_put function (node.Call name (e ∷ [])) = bytes_eq name (codes "putchar") && is_sum None function e
is_put function _ = false

-- a statement of `main`, which may call a function: `putchar(E);` or `return E;`
abbrev pub is_main_act : Option Word → Act-F Act Stmt → Bool
is_main_act function (act.Call e) = is_put function (out-Node e.node)
is_main_act function (act.Return (Some e)) = is_sum None function e
is_main_act function _ = false

unfoldable pub is_main_statement : Option Word → Stmt → Bool
is_main_statement function s = is_main_act function (out-Act s.node)

abbrev pub is_variable : Word → Node-F Node Expr → Bool
is_variable a (node.Variable name) = bytes_eq a name
is_variable a _ = false

-- a statement of the other function: `a = E;` or `return E;`, where E may name `a`
abbrev pub is_other_act : Word → Act-F Act Stmt → Bool
is_other_act a (act.Set None place e) = is_variable a (out-Node place.node) && is_sum (Some a) None e
is_other_act a (act.Return (Some e)) = is_sum (Some a) None e
is_other_act a _ = false

unfoldable pub is_other_statement : Word → Stmt → Bool
is_other_statement a s = is_other_act a (out-Act s.node)

abbrev pub is_return_act : Act-F Act Stmt → Bool
is_return_act (act.Return e) = true
is_return_act _ = false

abbrev pub is_a_return : Option Stmt → Bool
is_a_return None = false
is_a_return (Some s) = is_return_act (out-Act s.node)

-- the last statement is a `return`
unfoldable pub ends_in_return : List Stmt → Bool
ends_in_return body = is_a_return (slice_get body (length body - 1))

-- whether an expression calls a function
abbrev pub node_calls : Node-F Bool Bool → Bool
node_calls (node.Call name arguments) = true
node_calls (node.Binary op a b) = a || b
node_calls (node.Paren e) = e
node_calls _ = false

unfoldable pub calls : Expr → Bool
calls = fold-Expr Bool Bool node_calls (λ e. e.node)

abbrev pub put_calls : Node-F Node Expr → Bool
put_calls (node.Call name (e ∷ [])) = calls e
put_calls _ = false

abbrev pub act_calls : Act-F Act Stmt → Bool
act_calls (act.Call e) = put_calls (out-Node e.node)
act_calls (act.Return (Some e)) = calls e
act_calls _ = false

-- whether a statement of `main` calls the other function
unfoldable pub statement_calls : Stmt → Bool
statement_calls s = act_calls (out-Act s.node)

-- ---- programs

-- `int name(void) { .. }`, with the lines of `int` and of its name
abbrev pub function_item : Word → ℕ → ℕ → List Stmt → Item
function_item name line second body = Function false (Integer I32) name true [] (Some body) line second

-- one label, and `main`
abbrev pub alone_program : Word → Word → ℕ → ℕ → List Stmt → Program
alone_program label level line second body =
    record { items = Cle (Def label (level_text level)) 1 ∷ function_item (codes "main") line second body ∷ [] }

-- The tables of labels and of carried labels are empty in a form's checked program: its run looks at neither.
abbrev pub unlabelled : List Word → LabelTable
unlabelled levels = record { levels = levels; labels = []; on_functions = []; on_objects = [] }

abbrev pub no_flow : Flow
no_flow = record { objects = []; locals = []; results = [] }

-- what the program is, checked; `line` is that of the name `main`
abbrev pub alone_checked : Program → Word → ℕ → Checked
alone_checked program level line = record {
  typed = record {
    program = program;
    functions = record { name = codes "main"; item = 1; line = line } ∷ [];
    objects = [];
  };
  labels = unlabelled (level ∷ []);
  levels = record { of_functions = 0 ∷ []; of_objects = []; main = 0 };
  flow = no_flow;
  gedl = record { levels = level ∷ []; main = 0; rows = [] };
}

-- The source is of the form of one level, and this is its checked program.
pub record HasOneLevel (source : List ℕ) (checked : Checked) : Type 0 where
  pub label : Word
  pub level : Word
  pub rest : List ℕ
  pub line : ℕ
  pub second : ℕ
  pub body : List Stmt
  pub source_is : source ≡ def_line label (level_text level) ++ rest
  pub levelled : is_level level ≡ true
  pub plain : is_plain_text rest ≡ true
  pub reads : ReadsWithin source (alone_program label level line second body)
  pub statements : list_all (is_main_statement None) body ≡ true
  pub checked_is : checked ≡ alone_checked (alone_program label level line second body) level second

-- no word stands twice
unfoldable pub distinct : List Word → Bool
distinct [] = true
distinct (w ∷ ws) = not (listed ws w) && distinct ws

abbrev pub reserved : List Word
reserved = codes "main" ∷ codes "printf" ∷ codes "putchar" ∷ codes "getchar" ∷ []

abbrev pub pair_labels : Pair → List Word
pair_labels p = p.near_label ∷ p.variable_label ∷ p.result_label ∷ p.function_label ∷ []

abbrev pub pair_names : Pair → List Word
pair_names p = p.near_label ∷ p.variable_label ∷ p.result_label ∷ p.function_label ∷ p.variable_name ∷ p.function_name ∷ []

abbrev pub are_levels : Pair → Bool
are_levels p = is_level p.near && (is_level p.far && not (bytes_eq p.near p.far))

unfoldable pub is_pair : Pair → Bool
is_pair p =
    are_levels p && (distinct (pair_names p)
    && (list_all (λ w. not (is_cle_word w)) (pair_labels p) && list_all (λ w. not (listed reserved w)) (p.variable_name ∷ p.function_name ∷ [])))

abbrev pub pair_text : Pair → List ℕ
pair_text p = function_text p.far p.near p.variable_label p.result_label

-- the four lines that define the labels
abbrev pub label_lines : Pair → List ℕ
label_lines p =
    def_line p.near_label (level_text p.near) ++ (def_line p.variable_label (level_text p.far)
    ++ (def_line p.result_label (level_text p.near) ++ def_line p.function_label (pair_text p)))

-- the first seven lines
unfoldable pub head_lines : Pair → List ℕ
head_lines p = label_lines p ++ (next_line p.variable_label ++ (variable_line p.variable_name ++ next_line p.function_label))

-- the lines and the statements of the other function, and of `main`
pub record Bodies : Type 0 where
  pub line : ℕ
  pub second : ℕ
  pub body : List Stmt
  pub main_line : ℕ
  pub main_second : ℕ
  pub main_body : List Stmt

abbrev pub variable_item : Word → Item
variable_item name =
    Variables (record { is_static = false; names = record { name = name; ctype = Integer I32; init = None; line = 6; second = 6 } ∷ [] })

abbrev pub pair_program : Pair → Bodies → Program
pair_program p b = record {
  items =
      Cle (Def p.near_label (level_text p.near)) 1 ∷ Cle (Def p.variable_label (level_text p.far)) 2 ∷ Cle (Def p.result_label (level_text p.near)) 3
      ∷ Cle (Def p.function_label (pair_text p)) 4 ∷ Cle (Next p.variable_label) 5 ∷ variable_item p.variable_name ∷ Cle (Next p.function_label) 7
      ∷ function_item p.function_name b.line b.second b.body ∷ function_item (codes "main") b.main_line b.main_second b.main_body ∷ [];
}

-- the one row of calls from the level of `main`: no number goes there, and an `int` of four bytes comes back
abbrev pub pair_row : Pair → GedlRow
pair_row p = record {
  from = 0;
  to = 1;
  function = 0;
  name = p.function_name;
  label = p.function_label;
  operation = Allow;
  args = [];
  result = Integer I32;
  request = 0;
  reply = 4;
  oneway = false;
}

abbrev pub pair_typed : Program → Pair → ℕ → ℕ → Typed
pair_typed program p line main_line = record {
  program = program;
  functions = record { name = p.function_name; item = 7; line = line } ∷ record { name = codes "main"; item = 8; line = main_line } ∷ [];
  objects = record { name = p.variable_name; ctype = Integer I32; owner = None; item = 5; line = 6 } ∷ [];
}

-- there is a row only where `main` calls the other function
abbrev pub pair_gedl : Pair → Bool → GedlRows
pair_gedl p crosses = record { levels = p.near ∷ p.far ∷ []; main = 0; rows = if crosses then pair_row p ∷ [] else [] }

-- what the program is, checked; the lines are those of the names of the functions
abbrev pub pair_checked : Program → Pair → ℕ → ℕ → Bool → Checked
pair_checked program p line main_line crosses = record {
  typed = pair_typed program p line main_line;
  labels = unlabelled (p.near ∷ p.far ∷ []);
  levels = record { of_functions = 1 ∷ 0 ∷ []; of_objects = 1 ∷ []; main = 0 };
  flow = no_flow;
  gedl = pair_gedl p crosses;
}

-- The source is of the form of two levels, and this is its checked program.
pub record HasTwoLevels (source : List ℕ) (checked : Checked) : Type 0 where
  pub names : Pair
  pub bodies : Bodies
  pub rest : List ℕ
  pub source_is : source ≡ head_lines names ++ rest
  pub named : is_pair names ≡ true
  pub plain : is_plain_text rest ≡ true
  pub reads : ReadsWithin source (pair_program names bodies)
  pub statements : list_all (is_other_statement names.variable_name) bodies.body ≡ true
  pub returns : ends_in_return bodies.body ≡ true
  pub main_statements : list_all (is_main_statement (Some names.function_name)) bodies.main_body ≡ true
  pub checked_is : checked ≡ pair_checked (pair_program names bodies) names bodies.second bodies.main_second (list_any statement_calls bodies.main_body)

-- The source is of one of the forms, and this is its checked program.
abbrev pub HasForm : List ℕ → Checked → Type 0
HasForm source checked = HasOneLevel source checked ⊎ HasTwoLevels source checked
