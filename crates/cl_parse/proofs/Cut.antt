-- The cut into items, as repeated first items.
use Rattle.std.proofs.Common.{◌≡◌, ℕ, suc, ◌≤◌, List, [], ◌∷◌, take, drop, length, refl, arith, Bool, true, false, if◌then◌else◌, not, ◌&&◌, ◌||◌}
use Rattle.cl_tree.specs.declared.grammar.Terminal.{Terminal}
use Rattle.cl_tree.specs.Spelling.{is_empty}
use Rattle.cl_tree.specs.Items.{Bracket, Effect, opens, closes, semicolon, pragma_line, none, effect, open_after, ends_item, ends_here, is_close, is_partner, is_body_bracket, is_pragma_first, joined, cut_from}
use Rattle.cl_parse.specs.First.{first_length, first_closes}

no_brackets : (bs : List Bracket) (b : Bool) → (is_empty bs && b) ≡ true → bs ≡ []
no_brackets [] b h = refl
no_brackets (x ∷ bs) b h = cc

body_last : (b : Bool) (bs : List Bracket) → (b && is_empty bs) ≡ true → bs ≡ []
body_last true [] h = refl
body_last true (x ∷ bs) h = cc
body_last false bs h = cc

-- Behind the last terminal of an item no bracket is open.
closed_by : (same : Bool) (b : Bracket) (bs : List Bracket) → (not same || (is_body_bracket b && is_empty bs)) ≡ true → (if same then bs else []) ≡ []
closed_by true b bs h = body_last (is_body_bracket b) bs h
closed_by false b bs h = refl

item_closed : (bs : List Bracket) (e : Effect) → ends_item bs e ≡ true → open_after bs e ≡ []
item_closed [] (closes c) h = refl
item_closed (b ∷ bs) (closes c) h = closed_by (is_partner b c) b bs h
item_closed [] semicolon h = refl
item_closed [] pragma_line h = refl
item_closed [] (opens b) h = cc
item_closed (x ∷ bs) (opens b) h = cc
item_closed (x ∷ bs) semicolon h = cc
item_closed (x ∷ bs) pragma_line h = cc
item_closed [] none h = refl
item_closed (x ∷ bs) none h = cc

either : (a b : Bool) (bs : List Bracket) → (a ≡ true → bs ≡ []) → (b ≡ true → bs ≡ []) → (a || b) ≡ true → bs ≡ []
either true b bs f g h = f refl
either false b bs f g h = g h

pub all_closed : (bs : List Bracket) (e : Effect) (next : List Terminal) → ends_here bs e next ≡ true → open_after bs e ≡ []
all_closed bs e next h =
    either (ends_item bs e) (is_empty (open_after bs e) && is_pragma_first next) (open_after bs e) (item_closed bs e) (no_brackets (open_after bs e) (is_pragma_first next)) h

-- the first item and the cut of what follows it
abbrev pub Splits : List Bracket → Bool → List Terminal → Type 0
Splits bs after [] = Unit {0}
Splits bs after (p ∷ ps) = cut_from bs after (p ∷ ps) ≡ take (first_length bs after (p ∷ ps)) (p ∷ ps) ∷ cut_from [] (first_closes bs after (p ∷ ps)) (drop (first_length bs after (p ∷ ps)) (p ∷ ps))

joined_next : (p : Terminal) (X : List (List Terminal)) (i : List Terminal) (Y : List (List Terminal)) → X ≡ i ∷ Y → joined false p X ≡ (p ∷ i) ∷ Y
joined_next p X i Y e = rw e refl

nothing_left : (bs : List Bracket) (c : Bool) (p : Terminal) → joined false p (cut_from bs c []) ≡ take (suc (first_length bs c [])) (p ∷ []) ∷ cut_from [] (first_closes bs c []) (drop (suc (first_length bs c [])) (p ∷ []))
unfolding cut_from first_length first_closes
nothing_left bs c p = refl

splits_case : (ends : Bool) (bs : List Bracket) (c : Bool) (p : Terminal) (ps : List Terminal) → (ends ≡ true → bs ≡ []) → Splits bs c ps
    → joined ends p (cut_from bs c ps) ≡ take (suc (if ends then 0 else first_length bs c ps)) (p ∷ ps) ∷ cut_from [] (if ends then c else first_closes bs c ps) (drop (suc (if ends then 0 else first_length bs c ps)) (p ∷ ps))
splits_case true bs c p ps e h = rw (e refl) refl
splits_case false bs c p [] e h = nothing_left bs c p
splits_case false bs c p (q ∷ ps) e h = joined_next p (cut_from bs c (q ∷ ps)) _ _ h

pub splits : (bs : List Bracket) (after : Bool) (p : Terminal) (ps : List Terminal) → Splits bs after (p ∷ ps)
unfolding cut_from first_length first_closes
splits bs after p [] = splits_case (ends_here bs (effect after p.what) []) (open_after bs (effect after p.what)) (is_close p.what) p [] (all_closed bs (effect after p.what) []) tt
splits bs after p (q ∷ ps) =
    splits_case (ends_here bs (effect after p.what) (q ∷ ps)) (open_after bs (effect after p.what)) (is_close p.what) p (q ∷ ps) (all_closed bs (effect after p.what) (q ∷ ps))
    (splits (open_after bs (effect after p.what)) (is_close p.what) q ps)

within_case : (ends : Bool) (n m : ℕ) → n ≤ m → (suc (if ends then 0 else n)) ≤ suc m
within_case true n m h = omega arith
within_case false n m h = omega arith

pub first_within : (bs : List Bracket) (after : Bool) (ps : List Terminal) → first_length bs after ps ≤ length ps
unfolding first_length
first_within bs after [] = omega arith
first_within bs after (p ∷ ps) = within_case (ends_here bs (effect after p.what) ps) (first_length (open_after bs (effect after p.what)) (is_close p.what) ps) (length ps) (first_within (open_after bs (effect after p.what)) (is_close p.what) ps)

pub first_some : (bs : List Bracket) (after : Bool) (p : Terminal) (ps : List Terminal) → 1 ≤ first_length bs after (p ∷ ps)
unfolding first_length
first_some bs after p ps = omega arith
