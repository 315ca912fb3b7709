-- The pragmas of a program in the order of the source, and the definitions of labels among them.
use Rattle.std.specs.Prelude.{ℕ, List, [], ◌∷◌, ◌++◌, Option, Some, None}
use Rattle.std.specs.List.{flat_map}
use Rattle.cl_tree.specs.declared.token.Pragma.{Pragma}
use Rattle.cl_tree.specs.declared.token.Pragma.TheVariants as pragma
use Rattle.cl_tree.specs.declared.tree.Stmt.{Stmt, fold-Stmt}
use Rattle.cl_tree.specs.declared.tree.Act.{Act-F}
use Rattle.cl_tree.specs.declared.tree.Act.TheOpen as act
use Rattle.cl_tree.specs.declared.tree.Item.{Item}
use Rattle.cl_tree.specs.declared.tree.Item.TheVariants as item
use Rattle.cl_tree.specs.declared.tree.Program.{Program}
use Rattle.cl_tree.specs.Words.{Word}

-- a pragma and its line
pub record Placed : Type 0 where
  pub pragma : Pragma
  pub line : ℕ

abbrev pub placed : Pragma → ℕ → Placed
placed p line = record { pragma = p; line = line }

abbrev pub maybe_all : Option (List Placed) → List Placed
maybe_all None = []
maybe_all (Some all) = all

-- Pragmas stand between the statements of a block: none stands in the head of a `for`.
abbrev pub act_pragmas : Act-F (ℕ → List Placed) (List Placed) → ℕ → List Placed
act_pragmas (act.Block ss) line = flat_map (λ s. s) ss
act_pragmas (act.If c s other) line = s ++ maybe_all other
act_pragmas (act.While c s) line = s
act_pragmas (act.DoWhile s c) line = s
act_pragmas (act.For first test next s) line = s
act_pragmas (act.Cle p) line = placed p line ∷ []
act_pragmas _ line = []

unfoldable pub stmt_pragmas : Stmt → List Placed
stmt_pragmas = fold-Stmt (ℕ → List Placed) (List Placed) act_pragmas (λ s. s.node s.line)

unfoldable pub item_pragmas : Item → List Placed
item_pragmas (item.Function is_static result name void_word params (Some ss) line second) = flat_map stmt_pragmas ss
item_pragmas (item.Cle p line) = placed p line ∷ []
item_pragmas _ = []

unfoldable pub pragmas_of : Program → List Placed
pragmas_of program = flat_map item_pragmas program.items

-- a definition of a label: its name, its text and its line
pub record Definition : Type 0 where
  pub name : Word
  pub text : List ℕ
  pub line : ℕ

abbrev pub definition_at : Placed → List Definition
definition_at p = defined p.pragma
  where
    defined : Pragma → List Definition
    defined (pragma.Def name text) = record { name = name; text = text; line = p.line } ∷ []
    defined _ = []

-- the definitions of a program, wherever they stand
unfoldable pub definitions_of : Program → List Definition
definitions_of program = flat_map definition_at (pragmas_of program)
