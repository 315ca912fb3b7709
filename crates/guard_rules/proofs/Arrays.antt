-- The parts of a list.
use Rattle.std.proofs.Common.{◌≡◌, List, [], ◌∷◌, map, refl, ap, Option, Some, None, option_map, option_and_then}
use Rattle.serde_json.specs.Data.{Data, Items}
use Rattle.serde_json.specs.View.{view, items_of, items_view}
use Rattle.serde_json.specs.declared.value.Value.{Value}
use Rattle.cl_labelling.specs.Json.{listed, each}

listed_items : (ds : List Data) → listed (items_of ds) ≡ ds
listed_items [] = refl
listed_items (d ∷ ds) = ap (λ xs. d ∷ xs) (listed_items ds)

pub listed_view : (vs : List Value) → listed (items_view vs) ≡ map view vs
listed_view vs = listed_items (map view vs)

pub each_some : {B : Type 0} (f : Data → Option B) (o : Option Items) (xs : List Data) → Some xs ≡ option_map listed o
    → each f xs ≡ option_and_then (λ items. each f (listed items)) o
each_some f None xs h = cc
each_some f (Some items) xs h = let e : xs ≡ listed items = cc in ap (each f) e

pub each_none : {B : Type 0} (f : Data → Option B) (o : Option Items) → None ≡ option_map listed o
    → None ≡ option_and_then (λ items. each f (listed items)) o
each_none f None h = refl
each_none f (Some items) h = cc
