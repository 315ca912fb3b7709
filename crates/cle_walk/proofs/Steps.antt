-- One step further in a walk.
use Rattle.std.proofs.Common.{◌≡◌, ℕ, suc, ◌+◌, ◌<◌, List, [], ◌∷◌, ◌++◌, length, drop, get_or, refl, sym, ap, ◌∙◌, subst, add-one, drop-cons, Some, None, arith}
use Rattle.std.proofs.lemmas.List.{append-nil, length-append}
use Rattle.cl_tree.specs.declared.tree.Item.{Item}
use Rattle.cl_tree.specs.declared.tree.Item.TheVariants as item
use Rattle.cl_levels.specs.Uses.{Names}
use Rattle.cl_levels.specs.Crossings.{Levelled}
use Rattle.cle_ways.specs.declared.ways.Body.{Body}
use Rattle.cle_ways.specs.Ways.{bodies_from}
use Rattle.cle_walk.specs.Walked.{item_body, names_after}

app_app : {A : Type 0} (a b c : List A) → (a ++ b) ++ c ≡ a ++ (b ++ c)
app_app [] b c = refl
app_app (x ∷ a) b c = ap (λ ys. x ∷ ys) (app_app a b c)

none_more : (l : Levelled) (done : List Body) (ns : Names) (is : List Item) → bodies_from l (length done) ns is ≡ bodies_from l (length (done ++ [])) ns is
none_more l done ns is = ap (λ n. bodies_from l n ns is) (ap length (sym (append-nil done)))

one_more : (l : Levelled) (done : List Body) (b : Body) (ns : Names) (is : List Item) → b ∷ bodies_from l (suc (length done)) ns is ≡ b ∷ bodies_from l (length (done ++ b ∷ [])) ns is
one_more l done b ns is = let h = length-append done (b ∷ []) in let e : suc (length done) ≡ length (done ++ b ∷ []) = omega (arith, h) in ap (λ n. b ∷ bodies_from l n ns is) e

-- The number of the next function is that of the functions so far.
pub bodies_step : (l : Levelled) (done : List Body) (ns : Names) (i : Item) (is : List Item)
    → bodies_from l (length done) ns (i ∷ is)
    ≡ item_body l (length done) ns i ++ bodies_from l (length (done ++ item_body l (length done) ns i)) (names_after l (length done) ns i) is
unfolding bodies_from item_body names_after
bodies_step l done ns (item.Struct name members line) is = none_more l done _ is
bodies_step l done ns (item.Variables d) is = none_more l done _ is
bodies_step l done ns (item.Function is_static result name void_word params None line second) is = none_more l done _ is
bodies_step l done ns (item.Function is_static result name void_word params (Some ss) line second) is = one_more l done _ _ is
bodies_step l done ns (item.Cle p line) is = none_more l done _ is

-- One item further.
pub items_step : (l : Levelled) (all : List Item) (i : Item) (n : ℕ) (old new : Names) (bodies more whole : List Body)
    → n < length all → i ≡ get_or all n i → more ≡ bodies ++ item_body l (length bodies) old i → new ≡ names_after l (length bodies) old i
    → bodies ++ bodies_from l (length bodies) old (drop n all) ≡ whole → more ++ bodies_from l (length more) new (drop (n + 1) all) ≡ whole
items_step l all i n old new bodies more whole h is e behind rest =
    let d : drop n all ≡ i ∷ drop (suc n) all = drop-cons all n i h ∙ ap (λ (x : Item). x ∷ drop (suc n) all) (sym is) in
    let r : bodies ++ bodies_from l (length bodies) old (i ∷ drop (suc n) all) ≡ whole =
    subst (λ (xs : List Item). bodies ++ bodies_from l (length bodies) old xs ≡ whole) d rest in
    rw (add-one, e, behind) (app_app bodies (item_body l (length bodies) old i) (bodies_from l (length (bodies ++ item_body l (length bodies) old i)) (names_after l (length bodies) old i) (drop (suc n) all))
    ∙ ap (λ (xs : List Body). bodies ++ xs) (sym (bodies_step l bodies old i (drop (suc n) all))) ∙ r)
