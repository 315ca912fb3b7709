-- The parts of a list.
use Rattle.std.proofs.Common.{◌≡◌, Bool, true, false, nat_le, List, [], ◌∷◌, map, length, refl, ap, sym, ◌∙◌, Option, Some, None, option_map, option_and_then, if◌then◌else◌}
use Rattle.serde_json.specs.Data.{Data, Items}
use Rattle.serde_json.specs.Find.{as_array}
use Rattle.serde_json.specs.View.{view, items_of, items_view}
use Rattle.serde_json.specs.declared.value.Value.{Value}
use Rattle.cl_labelling.specs.Json.{listed, each}
use Rattle.cl_labelling.specs.Text.{entries_under}

listed_items : (ds : List Data) → listed (items_of ds) ≡ ds
listed_items [] = refl
listed_items (d ∷ ds) = ap (λ xs. d ∷ xs) (listed_items ds)

pub listed_view : (vs : List Value) → listed (items_view vs) ≡ map view vs
listed_view vs = listed_items (map view vs)

some_case : {B : Type 0} (f : Data → Option B) (o : Option Items) (xs : List Data) → Some xs ≡ option_map listed o
    → each f xs ≡ option_and_then (λ items. each f (listed items)) o
some_case f None xs h = cc
some_case f (Some items) xs h = let e : xs ≡ listed items = cc in ap (each f) e

pub each_some : {B : Type 0} (f : Data → Option B) (d : Data) (xs : List Data) → Some xs ≡ option_map listed (as_array d)
    → each f xs ≡ option_and_then (λ items. each f (listed items)) (as_array d)
each_some f d xs h = some_case f (as_array d) xs h

none_case : {B : Type 0} (f : Data → Option B) (o : Option Items) → None ≡ option_map listed o
    → None ≡ option_and_then (λ items. each f (listed items)) o
none_case f None h = refl
none_case f (Some items) h = cc

pub each_none : {B : Type 0} (f : Data → Option B) (d : Data) → None ≡ option_map listed (as_array d)
    → None ≡ option_and_then (λ items. each f (listed items)) (as_array d)
each_none f d h = none_case f (as_array d) h

few_some : (o : Option Items) (xs : List Data) → Some xs ≡ option_map listed o → (b : Bool) → nat_le (length xs) 32 ≡ b
    → (if b then Some xs else None) ≡ option_and_then (λ items. if nat_le (length (listed items)) 32 then Some (listed items) else None) o
few_some None xs h b e = cc
few_some (Some items) xs h b e =
    let k : xs ≡ listed items = cc in
    ap (λ (c : Bool). if c then Some xs else None) (sym e)
    ∙ ap (λ (ys : List Data). if nat_le (length ys) 32 then Some ys else None) k

pub few_parts : (d : Data) (xs : List Data) → Some xs ≡ option_map listed (as_array d) → nat_le (length xs) 32 ≡ true
    → Some xs ≡ entries_under (Some d)
few_parts d xs h e = few_some (as_array d) xs h true e

pub many_parts : (d : Data) (xs : List Data) → Some xs ≡ option_map listed (as_array d) → nat_le (length xs) 32 ≡ false
    → None ≡ entries_under (Some d)
many_parts d xs h e = few_some (as_array d) xs h false e
