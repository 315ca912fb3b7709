-- What names mean: the rules of names, as relations.
use Rattle.std.specs.Prelude.{◌≡◌, List, true, Some, None, codes}
use Rattle.cl_tree.specs.declared.tree.CType.{CType}
use Rattle.cl_tree.specs.declared.tree.Expr.{Expr}
use Rattle.cl_tree.specs.declared.tree.Node.{Node, Node-F}
use Rattle.cl_tree.specs.declared.tree.Node.TheOpen as node
use Rattle.cl_tree.specs.declared.tree.Declarator.{Declarator}
use Rattle.cl_tree.specs.declared.tree.Declaration.{Declaration}
use Rattle.cl_tree.specs.declared.tree.Item.{Item}
use Rattle.cl_tree.specs.declared.tree.Item.TheVariants as item
use Rattle.cl_tree.specs.declared.tree.Program.{Program}
use Rattle.cl_tree.specs.Words.{Word}
use Rattle.cl_typing.specs.Scope.{Field, Entry, variable, function, structure, Env, meaning, is_library, members_of, tag_of, types_of}
use Rattle.typing_laws.specs.Standing.{OneOf}

-- the struct that a type names is known, with its members
abbrev pub TagKnown : Env → CType → Type 0
TagKnown tags t = (tag : Word) → tag_of t ≡ Some tag → (members : List Field) × (members_of tags tag ≡ Some members)

-- an item defines a function of this name, with this result and parameters of these types
abbrev pub Defines : Word → CType → List CType → Item → Type 0
Defines name result types (item.Function is_static r n void_word params (Some body) line second) =
    (n ≡ name) × (r ≡ result) × (types_of params ≡ types)
Defines name result types _ = ⊥

pub record IsDefined (program : Program) (name : Word) (result : CType) (types : List CType) : Type 0 where
  pub item : Item
  pub stands : OneOf program.items item
  pub defines : Defines name result types item

-- What is called is a function that the program defines, or `getchar`.
pub data Callee (program : Program) (names : Env) (name : Word) : Type 0 where
  of_program : (result : CType) (types : List CType) → meaning names name ≡ Some (function result types)
      → IsDefined program name result types → Callee program names name
  of_getchar : name ≡ codes "getchar" → meaning names name ≡ None → Callee program names name

-- One level of an expression: what it names is known.
abbrev pub Resolves : Program → Env → Env → Node-F Node Expr → Type 0
Resolves program tags names (node.Variable name) = (t : CType) × (meaning names name ≡ Some (variable t)) × TagKnown tags t
Resolves program tags names (node.Cast t e) = TagKnown tags t
Resolves program tags names (node.Call name arguments) = Callee program names name
Resolves program tags names _ = Unit {0}

-- the names of the library's functions mean nothing else
abbrev pub NoLibrary : Env → Type 0
NoLibrary names = (name : Word) → is_library name ≡ true → meaning names name ≡ None

-- the structs that a name's types name are known
abbrev pub EntryKnown : Env → Entry → Type 0
EntryKnown tags (variable t) = TagKnown tags t
EntryKnown tags (function result types) = TagKnown tags result × ((t : CType) → OneOf types t → TagKnown tags t)
EntryKnown tags (structure members) = Unit {0}

abbrev pub NamesKnow : Env → List Declarator → Type 0
NamesKnow tags ds = (d : Declarator) → OneOf ds d → TagKnown tags d.ctype

-- One level of an item: the structs that its types name are known before it.
abbrev pub ItemKnows : Env → Item → Type 0
ItemKnows tags (item.Struct name members line) = (m : Declaration) → OneOf members m → NamesKnow tags m.names
ItemKnows tags (item.Variables d) = NamesKnow tags d.names
ItemKnows tags (item.Function is_static result name void_word params body line second) = TagKnown tags result × NamesKnow tags params
ItemKnows tags (item.Cle p line) = Unit {0}
