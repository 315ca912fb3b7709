-- How the table of sizes keeps them.
use Rattle.std.specs.Prelude.{◌≡◌, List, [], ◌∷◌, reverse, option_map}
use Rattle.cl_tree.specs.Words.{Word}
use Rattle.cl_typing.specs.Sizes.{Size, size_entry, known_size, size_of_members}
use Rattle.cl_scope.specs.declared.latest.Latest.{Latest}
use Rattle.cl_scope.specs.Table.{place_at}
use Rattle.cl_large.specs.Capped.{capped}
use Rattle.cl_large.specs.declared.sizes.Struct.{Struct}

abbrev pub struct_size : List Size → Struct → Size
struct_size sizes s = size_entry s.tag.now (size_of_members sizes s.members.now)

-- the sizes of structs, of which the latest is the first
unfoldable pub sizes_back : List Struct → List Size
sizes_back [] = []
sizes_back (s ∷ structs) = struct_size (sizes_back structs) s ∷ sizes_back structs

unfoldable pub sizes_in : List Struct → List Size
sizes_in structs = sizes_back (reverse structs)

abbrev pub IsSized : List Struct → Latest → Type 0
IsSized structs known = (tag : Word) → place_at known tag ≡ option_map capped (known_size (sizes_in structs) tag)
