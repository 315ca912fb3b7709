-- What has a type: the rules of types, as relations.
use Rattle.std.specs.Prelude.{◌≡◌, ℕ, ◌≤◌, List, [], ◌∷◌, length, Bool, true, false, Some, None, codes}
use Rattle.cl_tree.specs.declared.kinds.IntKind.{IntKind}
use Rattle.cl_tree.specs.declared.kinds.IntKind.TheVariants.{I32}
use Rattle.cl_tree.specs.declared.tree.CType.{CType}
use Rattle.cl_tree.specs.declared.tree.CType.TheVariants.{Integer, Struct, Array, Void}
use Rattle.cl_tree.specs.declared.tree.Expr.{Expr}
use Rattle.cl_tree.specs.declared.tree.Node.{Node, Node-F, out-Node}
use Rattle.cl_tree.specs.declared.tree.Node.TheOpen as node
use Rattle.cl_tree.specs.declared.tree.Init.{Init, out-Init}
use Rattle.cl_tree.specs.declared.tree.Init.TheOpen as init
use Rattle.cl_tree.specs.declared.tree.Declarator.{Declarator}
use Rattle.cl_tree.specs.declared.tree.Declaration.{Declaration}
use Rattle.cl_tree.specs.declared.tree.Stmt.{Stmt}
use Rattle.cl_tree.specs.declared.tree.Act.{Act, Act-F, out-Act}
use Rattle.cl_tree.specs.declared.tree.Act.TheOpen as act
use Rattle.cl_tree.specs.declared.tree.Item.{Item}
use Rattle.cl_tree.specs.declared.tree.Item.TheVariants as item
use Rattle.cl_tree.specs.Arithmetic.{promoted, common}
use Rattle.cl_tree.specs.Words.{Word}
use Rattle.cl_typing.specs.declared.format.Want.{Want}
use Rattle.cl_typing.specs.declared.format.Part.TheVariants.{Text}
use Rattle.cl_typing.specs.Scope.{Field, variable, function, Env, meaning, bound, members_of}
use Rattle.cl_typing.specs.Types.{judged, unary_kind, binary_kind, is_array, is_object_type, is_result_type, member_type, wants_of, wants_kind, is_settled}
use Rattle.typing_laws.specs.Standing.{OneOf, Level, AmongNames, Spot, spot_after_first}

-- ---- expressions

-- the type of an expression, where these structs and names are known
abbrev pub TypeIs : Env → Env → Expr → CType → Type 0
TypeIs tags names e t = (judged tags names e).ctype ≡ Some t

abbrev pub HasType : Env → Env → Expr → Type 0
HasType tags names e = (t : CType) × TypeIs tags names e t

abbrev pub IsInteger : Env → Env → Expr → Type 0
IsInteger tags names e = (kind : IntKind) × TypeIs tags names e (Integer kind)

-- a variable, or an element or a member of a place
abbrev pub IsPlace : Env → Env → Expr → Type 0
IsPlace tags names e = (judged tags names e).is_place ≡ true

-- An integer is taken for an integer, and a struct for the same struct.
pub data Takes (tags names : Env) (t : CType) (e : Expr) : Type 0 where
  an_integer : (kind from : IntKind) → t ≡ Integer kind → TypeIs tags names e (Integer from) → Takes tags names t e
  a_struct : (tag : Word) → t ≡ Struct tag → TypeIs tags names e (Struct tag) → Takes tags names t e

-- An array argument is a place of exactly the parameter's type.
pub data ArgumentFits (tags names : Env) (t : CType) (e : Expr) : Type 0 where
  an_array : is_array t ≡ true → IsPlace tags names e → TypeIs tags names e t → ArgumentFits tags names t e
  a_value : is_array t ≡ false → Takes tags names t e → ArgumentFits tags names t e

-- as many arguments as parameters, each of which fits
abbrev pub ArgumentsFit : Env → Env → List CType → List Expr → Type 0
ArgumentsFit tags names [] [] = Unit {0}
ArgumentsFit tags names (t ∷ ts) (e ∷ es) = ArgumentFits tags names t e × ArgumentsFit tags names ts es
ArgumentsFit tags names _ _ = ⊥

-- a call that has a type: of a function, which isn't `main`, or of `getchar`, which has no parameters
pub data CallIs (tags names : Env) (name : Word) (arguments : List Expr) (t : CType) : Type 0 where
  of_function : (types : List CType) → (name ≡ codes "main" → ⊥) → meaning names name ≡ Some (function t types)
      → ArgumentsFit tags names types arguments → CallIs tags names name arguments t
  of_getchar : name ≡ codes "getchar" → meaning names name ≡ None → arguments ≡ [] → t ≡ Integer I32
      → CallIs tags names name arguments t

-- One level of an expression of the type t: what its operands are.
abbrev pub NodeIs : Env → Env → Node-F Node Expr → CType → Type 0
NodeIs tags names (node.Number n kind) t = t ≡ Integer kind
NodeIs tags names (node.Letter byte) t = t ≡ Integer I32
NodeIs tags names (node.Variable name) t = meaning names name ≡ Some (variable t)
NodeIs tags names (node.Unary op e) t =
    (kind : IntKind) × (to : IntKind) × TypeIs tags names e (Integer kind) × (unary_kind op kind ≡ Some to) × (t ≡ Integer to)
NodeIs tags names (node.Binary op a b) t =
    (k : IntKind) × (l : IntKind) × TypeIs tags names a (Integer k) × TypeIs tags names b (Integer l) × (t ≡ Integer (binary_kind op k l))
NodeIs tags names (node.Choice c a b) t =
    (k : IntKind) × (l : IntKind) × IsInteger tags names c × TypeIs tags names a (Integer k) × TypeIs tags names b (Integer l)
    × (t ≡ Integer (common k l))
NodeIs tags names (node.Cast to e) t = (to ≡ t) × ((kind : IntKind) × (t ≡ Integer kind)) × IsInteger tags names e
NodeIs tags names (node.Call name arguments) t = CallIs tags names name arguments t
NodeIs tags names (node.Index a i) t = ((n : ℕ) × TypeIs tags names a (Array t n)) × IsInteger tags names i
NodeIs tags names (node.Member a name) t =
    (tag : Word) × (members : List Field) × TypeIs tags names a (Struct tag) × (members_of tags tag ≡ Some members)
    × (member_type name members ≡ Some t)
NodeIs tags names (node.Paren e) t = TypeIs tags names e t
NodeIs tags names _ t = ⊥

-- ---- initialisers

-- An expression that is taken; or in braces at most as many parts as an array has elements or a struct members, each of which fits.
-- Of what has static duration an expression is a constant.
mutual
  pub data InitFits (tags names : Env) (is_static : Bool) : Init → CType → Type 0 where
    by_value : {i : Init} {t : CType} (e : Expr) → out-Init i ≡ init.One e → Takes tags names t e
        → (is_static ≡ true → is_settled e ≡ true) → InitFits tags names is_static i t
    of_array : {i : Init} {t : CType} (parts : List Init) (element : CType) (n : ℕ) → out-Init i ≡ init.Many parts
        → t ≡ Array element n → length parts ≤ n → ElementsFit tags names is_static element parts → InitFits tags names is_static i t
    of_struct : {i : Init} {t : CType} (parts : List Init) (tag : Word) (members : List Field) → out-Init i ≡ init.Many parts
        → t ≡ Struct tag → members_of tags tag ≡ Some members → MembersFit tags names is_static members parts
        → InitFits tags names is_static i t

  pub data ElementsFit (tags names : Env) (is_static : Bool) : CType → List Init → Type 0 where
    no_element : {element : CType} → ElementsFit tags names is_static element []
    and_element : {element : CType} {i : Init} {parts : List Init} → InitFits tags names is_static i element
        → ElementsFit tags names is_static element parts → ElementsFit tags names is_static element (i ∷ parts)

  pub data MembersFit (tags names : Env) (is_static : Bool) : List Field → List Init → Type 0 where
    no_member : {members : List Field} → MembersFit tags names is_static members []
    and_member : {m : Field} {members : List Field} {i : Init} {parts : List Init} → InitFits tags names is_static i m.ctype
        → MembersFit tags names is_static members parts → MembersFit tags names is_static (m ∷ members) (i ∷ parts)

-- a declarator: its type is one of objects, and its initialiser fits; its name is known in it
pub record NameFits (tags names : Env) (is_static : Bool) (d : Declarator) : Type 0 where
  pub object : is_object_type d.ctype ≡ true
  pub starts : (i : Init) → d.init ≡ Some i → InitFits tags (bound d ∷ names) is_static i d.ctype

-- ---- statements

-- The arguments of `printf` are as many as the conversions of the format, each of the kind that its conversion takes.
abbrev pub AllWanted : Env → Env → List Want → List Expr → Type 0
AllWanted tags names [] [] = Unit {0}
AllWanted tags names (w ∷ ws) (e ∷ es) =
    ((kind : IntKind) × TypeIs tags names e (Integer kind) × (wants_kind w (promoted kind) ≡ true)) × AllWanted tags names ws es
AllWanted tags names _ _ = ⊥

-- a call as a statement
pub data CallFits (tags names : Env) (e : Expr) : Type 0 where
  prints : (format : Expr) (bytes : List ℕ) (wants : List Want) (arguments : List Expr)
      → out-Node e.node ≡ node.Call (codes "printf") (format ∷ arguments) → out-Node format.node ≡ node.Text bytes
      → wants_of Text bytes ≡ Some wants → AllWanted tags names wants arguments → CallFits tags names e
  puts : (argument : Expr) → out-Node e.node ≡ node.Call (codes "putchar") (argument ∷ []) → IsInteger tags names argument
      → CallFits tags names e
  calls : (name : Word) (arguments : List Expr) → out-Node e.node ≡ node.Call name arguments → (name ≡ codes "printf" → ⊥)
      → (name ≡ codes "putchar" → ⊥) → HasType tags names e → CallFits tags names e

-- the left side of `=`
pub record Stores (tags names : Env) (place value : Expr) : Type 0 where
  pub ctype : CType
  pub is_place : IsPlace tags names place
  pub has_type : TypeIs tags names place ctype
  pub takes : Takes tags names ctype value

-- One level of a statement that stands at a spot of a function with this result: what its expressions are.
abbrev pub ActFits : Env → CType → Act-F Act Stmt → Spot → Type 0
ActFits tags result (act.Set None place value) spot = Stores tags spot.names place value
ActFits tags result (act.Set (Some op) place value) spot =
    IsPlace tags spot.names place × IsInteger tags spot.names place × IsInteger tags spot.names value
ActFits tags result (act.Bump up prefix place) spot = IsPlace tags spot.names place × IsInteger tags spot.names place
ActFits tags result (act.Call e) spot = CallFits tags spot.names e
ActFits tags result (act.If c a b) spot = IsInteger tags spot.names c
ActFits tags result (act.While c body) spot = IsInteger tags spot.names c
ActFits tags result (act.DoWhile body c) spot = IsInteger tags spot.names c
ActFits tags result (act.For first test next body) spot =
    ((c : Expr) → test ≡ Some c → IsInteger tags (spot_after_first first spot).names c)
    × ((f : Stmt) (d : Declaration) → first ≡ Some f → out-Act f.node ≡ act.Declare d → d.is_static ≡ false)
ActFits tags result (act.Return None) spot = result ≡ Void
ActFits tags result (act.Return (Some e)) spot = Takes tags spot.names result e
ActFits tags result act.Break spot = spot.in_loop ≡ true
ActFits tags result act.Continue spot = spot.in_loop ≡ true
ActFits tags result (act.Declare d) spot =
    (name : Declarator) (before : Env) → AmongNames d.names spot.names name before → NameFits tags before d.is_static name
ActFits tags result _ spot = Unit {0}

-- ---- items

-- One level of an item: what the types that it declares are.
abbrev pub ItemFits : Item → Level → Type 0
ItemFits (item.Struct name members line) level =
    (m : Declaration) (d : Declarator) → OneOf members m → OneOf m.names d → is_object_type d.ctype ≡ true
ItemFits (item.Variables d) level =
    (name : Declarator) (before : Env) → AmongNames d.names level.names name before → NameFits level.tags before true name
ItemFits (item.Function is_static result name void_word params body line second) level =
    (is_result_type result ≡ true) × ((d : Declarator) → OneOf params d → is_object_type d.ctype ≡ true)
ItemFits (item.Cle p line) level = Unit {0}

-- ---- a call of `printf`

-- the format is the literal itself, and it has as many conversions as there are arguments behind it
pub record PrintfFits (tags names : Env) (arguments : List Expr) : Type 0 where
  pub format : Expr
  pub rest : List Expr
  pub bytes : List ℕ
  pub wants : List Want
  pub first : arguments ≡ format ∷ rest
  pub literal : out-Node format.node ≡ node.Text bytes
  pub conversions : wants_of Text bytes ≡ Some wants
  pub count : length rest ≡ length wants
  pub each : AllWanted tags names wants rest
