-- The names that a bag has, of which each may be there several times.
use Rattle.std.specs.Prelude.{◌≡◌, ℕ, zero, suc, List, [], ◌∷◌, length, Option, Some, None, option_map, bytes_eq, if◌then◌else◌}
use Rattle.std.specs.BTreeMap.{get_by_text}
use Rattle.cl_tree.specs.Words.{Word}
use Rattle.cl_regions.specs.declared.bag.Bag.{Bag}

-- the name and the count that are noted for a name
abbrev pub entry_at : Bag → Word → Option (Word × ℕ)
entry_at bag name = option_map (λ h. (h.name.now, h.count)) (get_by_text bag.held name)

abbrev pub counted : Option (Word × ℕ) → ℕ
counted None = 0
counted (Some e) = e.1

-- how often a name is there
unfoldable pub occurs : List Word → Word → ℕ
occurs [] name = 0
occurs (w ∷ ws) name = if bytes_eq w name then suc (occurs ws name) else occurs ws name

abbrev pub entry_for : Word → ℕ → Option (Word × ℕ)
entry_for name zero = None
entry_for name (suc n) = Some (name, suc n)

-- A bag has these names, in any order.
pub record Holds (bag : Bag) (ws : List Word) : Type 0 where
  pub each : (name : Word) → entry_at bag name ≡ entry_for name (occurs ws name)
  pub total : bag.total ≡ length ws
