-- What names mean at a place of a program (C11 6.2.1).
use Rattle.std.specs.Prelude.{List, [], ◌∷◌, ◌++◌, map, Bool, ◌||◌, Option, Some, None, if◌then◌else◌, bytes_eq, codes, is_some}
use Rattle.cl_tree.specs.declared.tree.CType.{CType, CType-F, fold-CType}
use Rattle.cl_tree.specs.declared.tree.CType.TheOpen as ctype
use Rattle.cl_tree.specs.declared.tree.Declarator.{Declarator}
use Rattle.cl_tree.specs.declared.tree.Declaration.{Declaration}
use Rattle.cl_tree.specs.declared.tree.Item.{Item}
use Rattle.cl_tree.specs.declared.tree.Item.TheVariants as item
use Rattle.cl_tree.specs.Words.{Word}
use Rattle.cl_typing.specs.Rules.{Lines}

-- a member of a struct
pub record Field : Type 0 where
  pub name : Word
  pub ctype : CType

-- What a name means: a variable of a type, a function with its result and the types of its parameters, or, as a tag, a
-- struct with its members.
pub data Entry : Type 0 where
  variable : CType → Entry
  function : CType → List CType → Entry
  structure : List Field → Entry

-- A binding of a name.
pub record Binding : Type 0 where
  pub name : Word
  pub entry : Entry

abbrev pub binding : Word → Entry → Binding
binding name entry = record { name = name; entry = entry }

-- the names that are known, the innermost first
abbrev pub Env : Type 0
Env = List Binding

-- what a name means: its innermost binding hides the outer ones
unfoldable pub meaning : Env → Word → Option Entry
meaning [] name = None
meaning (b ∷ env) name = if bytes_eq b.name name then Some b.entry else meaning env name

-- the name is bound
unfoldable pub is_bound : Env → Word → Bool
is_bound env name = is_some (meaning env name)

-- the three functions that are known from the start
unfoldable pub is_library : Word → Bool
is_library name = bytes_eq name (codes "printf") || (bytes_eq name (codes "putchar") || bytes_eq name (codes "getchar"))

-- the name that a declarator declares
abbrev pub bound : Declarator → Binding
bound d = binding d.name (variable d.ctype)

-- The names of declarators in order, before an environment: each is known from itself on.
unfoldable pub with_names : List Declarator → Env → Env
with_names [] env = env
with_names (d ∷ ds) env = with_names ds (bound d ∷ env)

-- What is to be known of a statement: the places where a rule fails in it, with the names that are known before it, and
-- what it declares.
pub record Scoped : Type 0 where
  pub places : Env → Lines
  pub declares : List Declarator

-- Statements in order: what one declares is known in the later ones.
unfoldable pub in_order : List Scoped → Env → Lines
in_order [] env = []
in_order (s ∷ ss) env = s.places env ++ in_order ss (with_names s.declares env)

-- a statement that declares nothing
abbrev pub no_names : (Env → Lines) → Scoped
no_names places = record { places = places; declares = [] }

-- ---- struct tags

-- the members of a struct; tags have an environment of their own (C11 6.2.3)
abbrev pub members_in : Option Entry → Option (List Field)
members_in (Some (structure members)) = Some members
members_in _ = None

unfoldable pub members_of : Env → Word → Option (List Field)
members_of tags tag = members_in (meaning tags tag)

-- the tag that a type names
abbrev pub tag_step : CType-F (Option Word) → Option Word
tag_step (ctype.Struct tag) = Some tag
tag_step (ctype.Array t n) = t
tag_step (ctype.Pointer t) = t
tag_step _ = None

unfoldable pub tag_of : CType → Option Word
tag_of = fold-CType (Option Word) tag_step

-- all declarators of declarations
unfoldable pub declarators : List Declaration → List Declarator
declarators [] = []
declarators (d ∷ ds) = d.names ++ declarators ds

abbrev pub fields_of : List Declarator → List Field
fields_of ds = map (λ d. record { name = d.name; ctype = d.ctype }) ds

-- ---- items

-- the types of parameters
abbrev pub types_of : List Declarator → List CType
types_of params = map (λ d. d.ctype) params

-- What stands before an item: the names, and the structs.
unfoldable pub env_after : Item → Env → Env
env_after (item.Struct name members line) env = env
env_after (item.Variables d) env = with_names d.names env
env_after (item.Function is_static result name void_word params body line second) env =
    binding name (function result (types_of params)) ∷ env
env_after (item.Cle p line) env = env

-- and the tags
unfoldable pub tags_after : Item → Env → Env
tags_after (item.Struct name members line) tags = binding name (structure (fields_of (declarators members))) ∷ tags
tags_after _ tags = tags

-- and the functions that were defined
unfoldable pub defined_after : Item → Env → Env
defined_after (item.Function is_static result name void_word params (Some body) line second) defined =
    binding name (function result (types_of params)) ∷ defined
defined_after _ defined = defined

-- the functions that items define, before others
unfoldable pub defined_in : List Item → Env → Env
defined_in [] defined = defined
defined_in (i ∷ is) defined = defined_in is (defined_after i defined)
