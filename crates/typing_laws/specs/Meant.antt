-- The types of the rules beside the types of the meaning.
use Rattle.std.specs.Prelude.{◌≡◌, List, [], ◌∷◌, Some, codes, ◌⊎◌}
use Rattle.cl_tree.specs.declared.tree.CType.{CType}
use Rattle.cl_tree.specs.declared.tree.Expr.{Expr}
use Rattle.cl_tree.specs.declared.tree.Node.{Node, Node-F, out-Node}
use Rattle.cl_tree.specs.declared.tree.Node.TheOpen as node
use Rattle.cl_tree.specs.declared.tree.Declarator.{Declarator}
use Rattle.cl_tree.specs.declared.tree.Item.{Item}
use Rattle.cl_tree.specs.declared.tree.Item.TheVariants as item
use Rattle.cl_tree.specs.declared.tree.Program.{Program}
use Rattle.cl_tree.specs.Words.{Word, entry}
use Rattle.cl_mean.specs.Shape.{Members, no_members, member, Structs, shape_of}
use Rattle.cl_mean.specs.Source.{Binding, Env as Bindings, binding_of, Parameter, Definition, function_named}
use Rattle.cl_typing.specs.Scope.{Field, variable, function, Env, meaning, members_of}
use Rattle.typing_laws.specs.Standing.{Level, ItemStands, Inside}

-- the members of a struct, as the meaning has them
abbrev pub shapes_of : Structs → List Field → Members
shapes_of structs [] = no_members
shapes_of structs (f ∷ fs) = member f.name (shape_of structs f.ctype) (shapes_of structs fs)

-- The meaning has each struct that is known, with the same members.
abbrev pub StructsMatch : Structs → Env → Type 0
StructsMatch structs tags = (tag : Word) (members : List Field) → members_of tags tag ≡ Some members → entry structs tag ≡ Some (shapes_of structs members)

-- A variable has in the meaning the type by which it is known.
abbrev pub NamesMatch : Structs → Env → Bindings → Type 0
NamesMatch structs names bindings =
    (name : Word) (t : CType) (b : Binding) → meaning names name ≡ Some (variable t) → binding_of bindings name ≡ Some b → b.shape ≡ shape_of structs t

-- the parameters are of these types
abbrev pub ParametersMatch : Structs → List Parameter → List CType → Type 0
ParametersMatch structs [] [] = Unit {0}
ParametersMatch structs (p ∷ ps) (t ∷ ts) = (p.shape ≡ shape_of structs t) × ParametersMatch structs ps ts
ParametersMatch structs _ _ = ⊥

-- A function has in the meaning the result and the parameters by which it is known.
abbrev pub FunctionsMatch : Structs → Env → List Definition → Type 0
FunctionsMatch structs names functions =
    (name : Word) (result : CType) (types : List CType) (d : Definition) → meaning names name ≡ Some (function result types) → function_named functions name ≡ Some d
    → (d.result ≡ shape_of structs result) × ParametersMatch structs d.params types

-- what an expression names has a meaning
abbrev pub NodeMeant : Bindings → List Definition → Node-F Node Expr → Type 0
NodeMeant bindings functions (node.Variable name) = (b : Binding) × (binding_of bindings name ≡ Some b)
NodeMeant bindings functions (node.Call name arguments) = (name ≡ codes "getchar") ⊎ ((d : Definition) × (function_named functions name ≡ Some d))
NodeMeant bindings functions _ = Unit {0}

abbrev pub AllMeant : Bindings → List Definition → Expr → Type 0
AllMeant bindings functions e = (x : Expr) → Inside x e → NodeMeant bindings functions (out-Node x.node)

-- the parameters are those that are declared
abbrev pub ParametersAre : Structs → List Parameter → List Declarator → Type 0
ParametersAre structs [] [] = Unit {0}
ParametersAre structs (p ∷ ps) (d ∷ ds) = (p.name ≡ d.name) × (p.shape ≡ shape_of structs d.ctype) × ParametersAre structs ps ds
ParametersAre structs _ _ = ⊥

-- the definition is that of the function which an item defines
abbrev pub IsDefinitionOf : Structs → Definition → Item → Type 0
IsDefinitionOf structs d (item.Function is_static result name void_word params (Some body) line second) =
    (d.name ≡ name) × (d.result ≡ shape_of structs result) × ParametersAre structs d.params params × (d.body ≡ body)
IsDefinitionOf structs d _ = ⊥

-- a function that the meaning finds by a name is defined by an item of the program
pub record DefinedByItem (structs : Structs) (program : Program) (name : Word) (d : Definition) : Type 0 where
  pub item : Item
  pub level : Level
  pub stands : ItemStands program item level
  pub named : d.name ≡ name
  pub is_its : IsDefinitionOf structs d item
