-- C types with their structs written out: which integers a value has, and where.
use Rattle.std.specs.Prelude.{ℕ, zero, suc, Bool, true, false, not, ◌==◌, ◌&&◌, ◌+◌, pos, List, [], ◌∷◌, ◌++◌, length, Option, Some, None, if◌then◌else◌, bytes_eq}
use Rattle.std.specs.List.{flat_map, fold}
use Rattle.cl_tree.specs.declared.kinds.IntKind.{IntKind}
use Rattle.cl_tree.specs.declared.kinds.IntKind.TheVariants.{I8, U8, I16, U16, I32, U32, Long, ULong, LLong, ULLong}
use Rattle.cl_tree.specs.declared.tree.CType.{CType, CType-F, fold-CType}
use Rattle.cl_tree.specs.declared.tree.CType.TheOpen as ctype
use Rattle.cl_tree.specs.declared.tree.Declarator.{Declarator}
use Rattle.cl_tree.specs.declared.tree.Item.{Item}
use Rattle.cl_tree.specs.declared.tree.Item.TheVariants.{Struct}
use Rattle.cl_tree.specs.Arithmetic.{rank, is_signed}
use Rattle.cl_tree.specs.Words.{Word, entry}
use Rattle.cl_mean.specs.Value.{Labelled, bare, Value, Values, number, parts, no_more, ◌then◌, no_value}

mutual
  pub data Shape : Type 0 where
    nothing : Shape
    integer : IntKind → Shape
    struct : Members → Shape
    array : Shape → ℕ → Shape

  pub data Members : Type 0 where
    no_members : Members
    member : Word → Shape → Members → Members

-- ---- the shape of a type

-- the structs by their tags
abbrev pub Structs : Type 0
Structs = List (Word × Members)

abbrev pub struct_known : Option Members → Shape
struct_known None = nothing
struct_known (Some ms) = struct ms

-- no accepted source has a type of another form
abbrev pub type_shape : Structs → CType-F Shape → Shape
type_shape structs (ctype.Integer kind) = integer kind
type_shape structs (ctype.Struct tag) = struct_known (entry structs tag)
type_shape structs (ctype.Array element size) = array element size
type_shape structs _ = nothing

unfoldable pub shape_of : Structs → CType → Shape
shape_of structs = fold-CType Shape (type_shape structs)

abbrev pub members_of : Structs → List Declarator → Members
members_of structs [] = no_members
members_of structs (d ∷ ds) = member d.name (shape_of structs d.ctype) (members_of structs ds)

-- a struct is known behind its item, and its members are of types that are known before it
abbrev pub with_struct : Structs → Item → Structs
with_struct structs (Struct tag declarations _) = structs ++ (tag, members_of structs (flat_map (λ d. d.names) declarations)) ∷ []
with_struct structs _ = structs

unfoldable pub structs_of : List Item → Structs
structs_of = fold with_struct []

-- the same kind: one of a rank is signed, the other isn't
abbrev pub is_kind : IntKind → IntKind → Bool
is_kind a b = (rank a == rank b) && (if is_signed a then is_signed b else not (is_signed b))

-- the same type: of the same kind, with the same members in order, or with so many elements of the same type
abbrev mutual
  pub is_type : Shape → Shape → Bool
  is_type nothing nothing = true
  is_type (integer a) (integer b) = is_kind a b
  is_type (struct ms) (struct ns) = are_members ms ns
  is_type (array a m) (array b n) = is_type a b && (m == n)
  is_type _ _ = false

  pub are_members : Members → Members → Bool
  are_members no_members no_members = true
  are_members (member x s ms) (member y t ns) = bytes_eq x y && (is_type s t && are_members ms ns)
  are_members _ _ = false

-- ---- parts of a shape

abbrev pub kind_in : Shape → IntKind
kind_in (integer kind) = kind
kind_in _ = I32

abbrev pub member_shape : Members → ℕ → Shape
member_shape no_members i = nothing
member_shape (member name s ms) zero = s
member_shape (member name s ms) (suc i) = member_shape ms i

-- the shape of a part
abbrev pub part_in : Shape → ℕ → Shape
part_in (struct ms) i = member_shape ms i
part_in (array element size) i = element
part_in _ i = nothing

abbrev pub size_in : Shape → ℕ
size_in (array element size) = size
size_in _ = 0

-- which of the members has a name; behind the last where none has
abbrev pub member_index : Members → Word → ℕ
member_index no_members name = 0
member_index (member first s ms) name = if bytes_eq first name then 0 else suc (member_index ms name)

-- ---- integers of a shape

abbrev pub times : {A : Type 0} → ℕ → List A → List A
times zero xs = []
times (suc n) xs = xs ++ times n xs

-- the kinds of its integers in declared order
abbrev mutual
  pub kinds_of : Shape → List IntKind
  kinds_of nothing = []
  kinds_of (integer kind) = kind ∷ []
  kinds_of (struct ms) = member_kinds ms
  kinds_of (array element size) = times size (kinds_of element)

  pub member_kinds : Members → List IntKind
  member_kinds no_members = []
  member_kinds (member name s ms) = kinds_of s ++ member_kinds ms

abbrev pub count_of : Shape → ℕ
count_of s = length (kinds_of s)

-- how many bytes an integer takes in a payload
abbrev pub size_of : IntKind → ℕ
size_of I8 = 1
size_of U8 = 1
size_of I16 = 2
size_of U16 = 2
size_of I32 = 4
size_of U32 = 4
size_of Long = 8
size_of ULong = 8
size_of LLong = 8
size_of ULLong = 8

abbrev pub total_size : List IntKind → ℕ
total_size [] = 0
total_size (kind ∷ kinds) = size_of kind + total_size kinds

-- the integers under a path of members, counted from a place on; through an array a path goes to each element
abbrev pub each_under : ℕ → ℕ → (ℕ → List ℕ) → ℕ → List ℕ
each_under zero stride under at = []
each_under (suc n) stride under at = under at ++ each_under n stride under (at + stride)

abbrev pub chosen : List Word → Word → (List Word → List ℕ) → List ℕ
chosen [] name under = under []
chosen (p ∷ path) name under = if bytes_eq p name then under path else []

abbrev mutual
  pub under : Shape → List Word → ℕ → List ℕ
  under nothing path at = []
  under (integer kind) [] at = at ∷ []
  under (integer kind) (name ∷ path) at = []
  under (struct ms) path at = under_members ms path at
  under (array element size) path at = each_under size (count_of element) (under element path) at

  pub under_members : Members → List Word → ℕ → List ℕ
  under_members no_members path at = []
  under_members (member name s ms) path at = chosen path name (λ rest. under s rest at) ++ under_members ms path (at + count_of s)

-- ---- values of a shape

abbrev pub repeated : ℕ → Value → Values
repeated zero v = no_more
repeated (suc n) v = v then repeated n v

-- the value whose integers are all 0 and carry nothing
abbrev mutual
  pub zero_of : Shape → Value
  zero_of nothing = no_value
  zero_of (integer kind) = number (bare (pos 0))
  zero_of (struct ms) = parts (zeros_of ms)
  zero_of (array element size) = parts (repeated size (zero_of element))

  pub zeros_of : Members → Values
  zeros_of no_members = no_more
  zeros_of (member name s ms) = zero_of s then zeros_of ms

-- The value of a shape that a list of integers begins with, and the rest of the list.
abbrev pub ValueFrom : Type 0
ValueFrom = List Labelled → Value × List Labelled

abbrev pub integer_from : List Labelled → Value × List Labelled
integer_from [] = (number (bare (pos 0)), [])
integer_from (x ∷ xs) = (number x, xs)

abbrev pub whole : Values × List Labelled → Value × List Labelled
whole r = (parts r.0, r.1)

abbrev pub and_then : Value × List Labelled → (List Labelled → Values × List Labelled) → Values × List Labelled
and_then r rest = (r.0 then (rest r.1).0, (rest r.1).1)

abbrev pub elements_from : ℕ → ValueFrom → List Labelled → Values × List Labelled
elements_from zero take xs = (no_more, xs)
elements_from (suc n) take xs = and_then (take xs) (elements_from n take)

abbrev mutual
  pub value_from : Shape → List Labelled → Value × List Labelled
  value_from nothing xs = (no_value, xs)
  value_from (integer kind) xs = integer_from xs
  value_from (struct ms) xs = whole (values_from ms xs)
  value_from (array element size) xs = whole (elements_from size (value_from element) xs)

  pub values_from : Members → List Labelled → Values × List Labelled
  values_from no_members xs = (no_more, xs)
  values_from (member name s ms) xs = and_then (value_from s xs) (values_from ms)
