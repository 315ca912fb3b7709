-- The rows of a graph as lists.
use Rattle.std.proofs.Common.{◌≡◌, ℕ, ◌<◌, ◌++◌, List, [], ◌∷◌, length, get_or, set, map, sym, ap, subst, ◌∙◌}
use Rattle.std.proofs.lemmas.List.{map-set, get_or-map, length-map}
use Rattle.std.specs.Prelude.{Vec}
use Rattle.std.specs.declared.alloc.Global.{Global}

abbrev pub items_of : Vec ℕ Global → List ℕ
items_of r = r.items

-- a push to one row, seen from the lists
pub row_pushed : (rows : List (Vec ℕ Global)) (now : List (List ℕ)) (i y : ℕ) (v w : Vec ℕ Global) → map items_of rows ≡ now → i < length now → v ≡ get_or rows i v → w.items ≡ v.items ++ y ∷ [] → map items_of (set rows i w) ≡ set now i (get_or now i [] ++ y ∷ [])
row_pushed rows now i y v w are h is pushed =
    let within : i < length rows = subst (λ (n : ℕ). i < n) (length-map rows items_of) (subst (λ (g : List (List ℕ)). i < length g) (sym are) h) in
    let read : get_or now i [] ≡ v.items = ap (λ (g : List (List ℕ)). get_or g i []) (sym are) ∙ get_or-map items_of rows i v [] within ∙ ap items_of (sym is) in
    map-set items_of rows i w ∙ ap (λ (g : List (List ℕ)). set g i w.items) are ∙ ap (λ (ys : List ℕ). set now i ys) (pushed ∙ ap (λ (ys : List ℕ). ys ++ y ∷ []) (sym read))
