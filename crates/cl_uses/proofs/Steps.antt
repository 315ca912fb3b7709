-- One step further in a walk.
use Rattle.cl_mean.specs.Shape.{times}
use Rattle.std.proofs.Common.{◌≡◌, ℕ, suc, ◌+◌, ◌-◌, ◌<◌, ◌≤◌, List, [], ◌∷◌, ◌++◌, length, drop, get_or, refl, sym, ap, ◌∙◌, subst, add-one, drop-cons, arith, Some, None}
use Rattle.cl_tree.specs.declared.tree.Declarator.{Declarator}
use Rattle.cl_tree.specs.declared.tree.Declaration.{Declaration}
use Rattle.cl_tree.specs.declared.tree.Item.{Item}
use Rattle.cl_tree.specs.declared.tree.Item.TheVariants as item
use Rattle.cl_mean.specs.declared.checked.FnFact.{FnFact}
use Rattle.cl_levels.specs.declared.uses.Use.{Use}
use Rattle.cl_labelling.specs.Regions.{first_line, item_part}
use Rattle.cl_levels.specs.Levels.{item_line}
use Rattle.cl_levels.specs.Uses.{Names, bodies_from}
use Rattle.cl_uses.specs.Spots.{item_uses, names_after}

pub bodies_step : (fs : List FnFact) (ns : Names) (i : Item) (is : List Item)
    → bodies_from fs ns (i ∷ is) ≡ item_uses fs ns i ++ bodies_from fs (names_after fs ns i) is
unfolding bodies_from item_uses names_after
bodies_step fs ns (item.Struct name members line) is = refl
bodies_step fs ns (item.Variables d) is = refl
bodies_step fs ns (item.Function is_static result name void_word params None line second) is = refl
bodies_step fs ns (item.Function is_static result name void_word params (Some ss) line second) is = refl
bodies_step fs ns (item.Cle p line) is = refl

-- The line of a declaration is that of its first name.
none_first : (ds : List Declarator) → length ds < 1 → 0 ≡ first_line ds
none_first [] h = refl
none_first (d ∷ ds) h = absurd (omega arith)

some_first : (ds : List Declarator) (d : Declarator) → 1 ≤ length ds → d ≡ get_or ds 0 d → d.second ≡ first_line ds
some_first [] d h is = absurd (omega arith)
some_first (e ∷ ds) d h is = ap (λ (x : Declarator). x.second) is

pub line_none : (d : Declaration) (ds : List Declarator) → ds ≡ d.names → length ds < 1 → 0 ≡ item_line (item.Variables d)
unfolding item_part
line_none d ds e h = none_first ds h ∙ ap first_line e

pub line_some : (d : Declaration) (ds : List Declarator) (x : Declarator) → ds ≡ d.names → 1 ≤ length ds → x ≡ get_or ds 0 x
    → x.second ≡ item_line (item.Variables d)
unfolding item_part
line_some d ds x e h is = some_first ds x h is ∙ ap first_line e

app_app : {A : Type 0} (a b c : List A) → (a ++ b) ++ c ≡ a ++ (b ++ c)
app_app [] b c = refl
app_app (x ∷ a) b c = ap (λ ys. x ∷ ys) (app_app a b c)

-- One line more.
pub times_step : (old new whole : List ℕ) (line count i : ℕ) → i < count → new ≡ old ++ line ∷ []
    → old ++ times (count - i) (line ∷ []) ≡ whole → new ++ times (count - (i + 1)) (line ∷ []) ≡ whole
times_step old new whole line count i h e rest =
    let k : count - i ≡ suc (count - (i + 1)) = omega arith in
    let r : old ++ times (suc (count - (i + 1))) (line ∷ []) ≡ whole =
    subst (λ (n : ℕ). old ++ times n (line ∷ []) ≡ whole) k rest in
    ap (λ (xs : List ℕ). xs ++ times (count - (i + 1)) (line ∷ [])) e
    ∙ app_app old (line ∷ []) (times (count - (i + 1)) (line ∷ [])) ∙ r

-- One item further.
pub items_step : (fs : List FnFact) (all : List Item) (i : Item) (n : ℕ) (old new : Names) (bodies more whole : List (List Use))
    → n < length all → i ≡ get_or all n i → more ≡ bodies ++ item_uses fs old i → new ≡ names_after fs old i
    → bodies ++ bodies_from fs old (drop n all) ≡ whole → more ++ bodies_from fs new (drop (n + 1) all) ≡ whole
items_step fs all i n old new bodies more whole h is e behind rest =
    let d : drop n all ≡ i ∷ drop (suc n) all = drop-cons all n i h ∙ ap (λ (x : Item). x ∷ drop (suc n) all) (sym is) in
    let r : bodies ++ bodies_from fs old (i ∷ drop (suc n) all) ≡ whole =
    subst (λ (xs : List Item). bodies ++ bodies_from fs old xs ≡ whole) d rest in
    rw (add-one, e, behind) (app_app bodies (item_uses fs old i) (bodies_from fs (names_after fs old i) (drop (suc n) all))
    ∙ ap (λ (xs : List (List Use)). bodies ++ xs) (sym (bodies_step fs old i (drop (suc n) all))) ∙ r)
