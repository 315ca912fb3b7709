-- The names of the table, as the definitions have them.
use Rattle.std.proofs.Common.{◌≡◌, List, [], ◌∷◌, refl, sym, ap, ◌∙◌, Bool, true, false, if◌then◌else◌, Option, Some, None, option_map, bytes_eq}
use Rattle.cl_tree.specs.Words.{Word}
use Rattle.code_forms.specs.Layout as layout
use Rattle.code_tables.specs.declared.names.Meant.{Meant}
use Rattle.code_tables.specs.Table.{Meaning, Named, named_by, bounds, meaning_in, meant_in, meant_of}

by_case : (b : Bool) (m : Meaning) (o : Option Meaning) (p : Option layout.Meant) → p ≡ option_map meant_of o
    → (if b then Some (meant_of m) else p) ≡ option_map meant_of (if b then Some m else o)
by_case true m o p e = refl
by_case false m o p e = e

pub known_is : (ks : List Named) (name : Word) → layout.meant_by (bounds ks) name ≡ option_map meant_of (named_by ks name)
unfolding layout.meant_by named_by
known_is [] name = refl
known_is (k ∷ ks) name = by_case (bytes_eq k.name name) k.meant (named_by ks name) (layout.meant_by (bounds ks) name) (known_is ks name)

twice : (o : Option Meant) → option_map meant_in o ≡ option_map meant_of (option_map meaning_in o)
twice None = refl
twice (Some m) = refl

pub found_is : (ks : List Named) (name : Word) (o : Option Meant) → option_map meaning_in o ≡ named_by ks name
    → option_map meant_in o ≡ layout.meant_by (bounds ks) name
found_is ks name o e = twice o ∙ ap (option_map meant_of) e ∙ sym (known_is ks name)
