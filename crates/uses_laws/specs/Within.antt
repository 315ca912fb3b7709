-- The numbers that uses name.
use Rattle.std.specs.Prelude.{ℕ, ◌<◌, List, [], ◌∷◌, Option, Some, None}
use Rattle.cl_tree.specs.declared.tree.Item.{Item}
use Rattle.cl_tree.specs.declared.tree.Item.TheVariants as item
use Rattle.cl_mean.specs.declared.checked.FnFact.{FnFact}
use Rattle.cl_mean.specs.declared.checked.Typed.{Typed}
use Rattle.cl_levels.specs.declared.uses.Variable.{Variable}
use Rattle.cl_levels.specs.declared.uses.Variable.TheVariants.{Static, Local}
use Rattle.cl_levels.specs.declared.uses.Use.{Use}
use Rattle.cl_levels.specs.declared.uses.Use.TheVariants.{Named, Called}
use Rattle.cl_levels.specs.Uses.{Names, no_names, body_walk, with_objects}

-- how many objects of static duration are numbered behind items
unfoldable pub statics_from : List FnFact → Names → List Item → ℕ
statics_from fs ns [] = ns.statics
statics_from fs ns (item.Function is_static result name void_word params (Some ss) line second ∷ is) =
    statics_from fs (body_walk fs params ss ns).1 is
statics_from fs ns (item.Variables d ∷ is) = statics_from fs (with_objects d.names ns) is
statics_from fs ns (i ∷ is) = statics_from fs ns is

-- how many objects of static duration of a program are numbered
abbrev pub numbered : Typed → ℕ
numbered typed = statics_from typed.functions no_names typed.program.items

abbrev pub RootWithin : ℕ → Option Variable → Type 0
RootWithin n (Some (Static k)) = k < n
RootWithin n (Some (Local k)) = Unit {0}
RootWithin n None = Unit {0}

abbrev pub RootsWithin : ℕ → List (Option Variable) → Type 0
RootsWithin n [] = Unit {0}
RootsWithin n (r ∷ rs) = RootWithin n r × RootsWithin n rs

-- A use names a function below `m`, and objects of static duration below `n`.
abbrev pub UseWithin : ℕ → ℕ → Use → Type 0
UseWithin m n (Named k line) = k < n
UseWithin m n (Called g roots line) = (g < m) × RootsWithin n roots

abbrev pub UsesWithin : ℕ → ℕ → List Use → Type 0
UsesWithin m n [] = Unit {0}
UsesWithin m n (u ∷ us) = UseWithin m n u × UsesWithin m n us

abbrev pub BodiesWithin : ℕ → ℕ → List (List Use) → Type 0
BodiesWithin m n [] = Unit {0}
BodiesWithin m n (us ∷ uss) = UsesWithin m n us × BodiesWithin m n uss
