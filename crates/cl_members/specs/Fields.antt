-- How a table of members keeps them.
use Rattle.std.specs.Prelude.{◌≡◌, ℕ, suc, List, [], ◌∷◌, map, Option, Some, None, if◌then◌else◌, bytes_eq}
use Rattle.std.specs.Borrow.{Bor}
use Rattle.cl_tree.specs.declared.tree.Declarator.{Declarator}
use Rattle.cl_tree.specs.Words.{Word}
use Rattle.cl_typing.specs.Scope.{Field}
use Rattle.cl_scope.specs.declared.latest.Latest.{Latest}
use Rattle.cl_scope.specs.Table.{place_at}

abbrev pub field_of : Declarator → Field
field_of d = record { name = d.name; ctype = d.ctype }

unfoldable pub fields_in : List (Bor Declarator) → List Field
fields_in ds = map (λ d. field_of d.now) ds

-- the place of the first member of a name, where the first one has the given place
unfoldable pub first_from : ℕ → List Field → Word → Option ℕ
first_from place [] name = None
first_from place (f ∷ fs) name = if bytes_eq f.name name then Some place else first_from (suc place) fs name

abbrev pub IsIndexed : List (Bor Declarator) → Latest → Type 0
IsIndexed ds first = (name : Word) → place_at first name ≡ first_from 0 (fields_in ds) name
