-- How many bytes types take in a payload.
use Rattle.std.specs.Prelude.{◌≡◌, ◌+◌, ℕ, List, [], ◌∷◌, ◌++◌, option_map}
use Rattle.std.specs.List.{flat_map}
use Rattle.cl_tree.specs.declared.tree.Declaration.{Declaration}
use Rattle.cl_tree.specs.declared.tree.Declarator.{Declarator}
use Rattle.cl_tree.specs.Words.{Word, entry}
use Rattle.cl_mean.specs.Shape.{Shape, array, Members, member_kinds, Structs, structs_of, shape_of, members_of, kinds_of, total_size}
use Rattle.cl_scope.specs.declared.latest.Latest.{Latest}
use Rattle.cl_scope.specs.Table.{place_at}
use Rattle.cl_rows.specs.Capped.{capped}
use Rattle.cl_rows.specs.declared.bytes.Bytes.{Bytes}

abbrev pub bytes_of : Shape → ℕ
bytes_of s = total_size (kinds_of s)

abbrev pub array_bytes : Shape → ℕ
array_bytes (array element size) = bytes_of (array element size)
array_bytes _ = 0

unfoldable pub declared_bytes : Structs → List Declarator → ℕ
declared_bytes structs [] = 0
declared_bytes structs (d ∷ ds) = bytes_of (shape_of structs d.ctype) + declared_bytes structs ds

unfoldable pub arrays_bytes : Structs → List Declarator → ℕ
arrays_bytes structs [] = 0
arrays_bytes structs (d ∷ ds) = array_bytes (shape_of structs d.ctype) + arrays_bytes structs ds

unfoldable pub members_bytes : Structs → List Declaration → ℕ
members_bytes structs [] = 0
members_bytes structs (m ∷ ms) = declared_bytes structs m.names + members_bytes structs ms

-- ---- what is noted of structs

abbrev pub structs_in : Bytes → Structs
structs_in b = structs_of b.items.now

abbrev pub AreKnown : Structs → Latest → Type 0
AreKnown structs known = (tag : Word) → place_at known tag ≡ option_map (λ ms. capped (total_size (member_kinds ms))) (entry structs tag)

abbrev pub IsKnown : Bytes → Type 0
IsKnown b = AreKnown (structs_in b) b.known

-- the same with one struct more
abbrev pub AreNoted : Structs → Word → List Declaration → Latest → Type 0
AreNoted structs tag members known = AreKnown (structs ++ (tag, members_of structs (flat_map (λ d. d.names) members)) ∷ []) known
