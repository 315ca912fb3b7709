-- What the reader's answer says.
use Rattle.std.proofs.Common.{◌≡◌, ◌⊎◌, inl, inr, ℕ, List, [], ◌∷◌, refl, sym, ◌∙◌, ap, Option, Some, None, Result, Ok, Err, IfOk, IfErr, MatchResult}
use Rattle.cl_tree.specs.declared.token.Token.{Token}
use Rattle.cl_tree.specs.declared.grammar.Terminal.{Terminal}
use Rattle.cl_tree.specs.declared.tree.Item.{Item}
use Rattle.cl_tree.specs.declared.tree.Program.{Program}
use Rattle.cl_tree.specs.Runs.{terminals}
use Rattle.cl_tree.specs.Items.{cut}
use Rattle.cl_tree.specs.Reading.{IsItem, AreItems, ReadsAs, passed_at, WithinLimits, IsUnread, line_of, IsFirstUnread, HasProgram, HasFailure, ParseFails}
use Rattle.cl_parse.specs.declared.stop.ParseStop.{ParseStop}
use Rattle.cl_parse.specs.declared.stop.ParseStop.TheVariants.{Rule, NoMemory}
use Rattle.cl_parse.specs.Answer.{IsFailure, AreOneItems, ProgramAnswer}

are_items : (pss : List (List Terminal)) (is : List Item) → AreOneItems pss is → AreItems pss is
are_items [] [] h = tt
are_items (ps ∷ pss) (i ∷ is) h = (h.0.is_item, are_items pss is h.1)
are_items [] (i ∷ is) h = absurd h
are_items (ps ∷ pss) [] h = absurd h

one_list : (pss : List (List Terminal)) (is js : List Item) → AreOneItems pss is → AreItems pss js → is ≡ js
one_list [] [] [] h k = refl
one_list (ps ∷ pss) (i ∷ is) (j ∷ js) h k = let e : i ≡ j = h.0.only j k.0 in let f : is ≡ js = one_list pss is js h.1 k.1 in cc
one_list [] (i ∷ is) js h k = absurd h
one_list [] [] (j ∷ js) h k = absurd k
one_list (ps ∷ pss) [] js h k = absurd h
one_list (ps ∷ pss) (i ∷ is) [] h k = absurd k

-- Items that all read leave none unread.
not_both : (pss : List (List Terminal)) (is : List Item) (line : ℕ) → AreItems pss is → IsFirstUnread pss line → ⊥
not_both [] is line h u = u
not_both (ps ∷ pss) [] line h u = h
not_both (ps ∷ pss) (i ∷ is) line h (inl u) = u.0 i h.0
not_both (ps ∷ pss) (i ∷ is) line h (inr u) = not_both pss is line h.1 u.1

one_unread : (pss : List (List Terminal)) (l m : ℕ) → IsFirstUnread pss l → IsFirstUnread pss m → l ≡ m
one_unread [] l m u v = absurd u
one_unread (ps ∷ pss) l m (inl u) (inl v) = sym u.1 ∙ v.1
one_unread (ps ∷ pss) l m (inl u) (inr v) = absurd (u.0 v.0.0 v.0.1)
one_unread (ps ∷ pss) l m (inr u) (inl v) = absurd (v.0 u.0.0 u.0.1)
one_unread (ps ∷ pss) l m (inr u) (inr v) = one_unread pss l m u.1 v.1

within_passed : (ts : List Token) (line : ℕ) → WithinLimits ts → passed_at ts ≡ Some line → ⊥
within_passed ts line w p = cc

read_fails : (ts : List Token) (p : Program) (rule line : ℕ) → WithinLimits ts → ReadsAs ts p → ParseFails ts rule line → ⊥
read_fails ts p rule line w r (inl f) = within_passed ts line w f.1
read_fails ts p rule line w r (inr f) = not_both (cut (terminals ts)) p.items line r f.1.1

one_failure : (ts : List Token) (rule line rule' line' : ℕ) → ParseFails ts rule line → ParseFails ts rule' line' → Rule rule line ≡ Rule rule' line'
one_failure ts rule line rule' line' (inl f) (inl g) = let a : rule ≡ 23 = f.0 in let b : rule' ≡ 23 = g.0 in let c : passed_at ts ≡ Some line = f.1 in let d : passed_at ts ≡ Some line' = g.1 in cc
one_failure ts rule line rule' line' (inl f) (inr g) = absurd (within_passed ts line g.1.0 f.1)
one_failure ts rule line rule' line' (inr f) (inl g) = absurd (within_passed ts line' f.1.0 g.1)
one_failure ts rule line rule' line' (inr f) (inr g) = let a : rule ≡ 6 = f.0 in let b : rule' ≡ 6 = g.0 in let c : line ≡ line' = one_unread (cut (terminals ts)) line line' f.1.1 g.1.1 in cc

program_is : (p q : Program) → p.items ≡ q.items → p ≡ q
program_is p q e = ap (λ (is : List Item). record { items = is }) e

pub answer_found : (ts : List Token) (r : Result Program ParseStop) → ProgramAnswer ts r → IfOk r (λ p. WithinLimits ts × ReadsAs ts p)
answer_found ts (Ok p) h = (h.0, are_items (cut (terminals ts)) p.items h.1)
answer_found ts (Err e) h = tt

pub answer_only : (ts : List Token) (r : Result Program ParseStop) → ProgramAnswer ts r → (p : Program) → WithinLimits ts → ReadsAs ts p → MatchResult r (λ x. x ≡ p) (λ e. e ≡ NoMemory)
answer_only ts (Ok x) h p w a = program_is x p (one_list (cut (terminals ts)) x.items p.items h.1 a)
answer_only ts (Err (Rule rule line)) h p w a = absurd (read_fails ts p rule line w a h)
answer_only ts (Err NoMemory) h p w a = refl

pub answer_fails : (ts : List Token) (r : Result Program ParseStop) → ProgramAnswer ts r → IfErr r (λ e. IsFailure ts e)
answer_fails ts (Ok x) h = tt
answer_fails ts (Err e) h = h

pub answer_rule : (ts : List Token) (r : Result Program ParseStop) → ProgramAnswer ts r → (rule line : ℕ) → ParseFails ts rule line → MatchResult r (λ x. ⊥) (λ e. (e ≡ Rule rule line) ⊎ (e ≡ NoMemory))
answer_rule ts (Ok x) h rule line f = read_fails ts x rule line h.0 (are_items (cut (terminals ts)) x.items h.1) f
answer_rule ts (Err (Rule r l)) h rule line f = inl (one_failure ts r l rule line h f)
answer_rule ts (Err NoMemory) h rule line f = inr refl

-- Under one reading of each item a list of terminals has one reading.
one_items : (one : (ps : List Terminal) (i j : Item) → IsItem ps i → IsItem ps j → i ≡ j) (pss : List (List Terminal)) (is js : List Item) → AreItems pss is → AreItems pss js → is ≡ js
one_items one [] [] [] h k = refl
one_items one (ps ∷ pss) (i ∷ is) (j ∷ js) h k = let e : i ≡ j = one ps i j h.0 k.0 in let f : is ≡ js = one_items one pss is js h.1 k.1 in cc
one_items one [] (i ∷ is) js h k = absurd h
one_items one [] [] (j ∷ js) h k = absurd k
one_items one (ps ∷ pss) [] js h k = absurd h
one_items one (ps ∷ pss) (i ∷ is) [] h k = absurd k

pub one_program : (one : (ps : List Terminal) (i j : Item) → IsItem ps i → IsItem ps j → i ≡ j) (ts : List Token) (p q : Program) → ReadsAs ts p → ReadsAs ts q → p ≡ q
one_program one ts p q h k = program_is p q (one_items one (cut (terminals ts)) p.items q.items h k)

-- ---- one answer

-- Under a decision of each list of terminals the items are read, or there is a first that isn't.
items_or_unread : ((ps : List Terminal) → ((i : Item) × IsItem ps i) ⊎ IsUnread ps) → (pss : List (List Terminal)) → ((is : List Item) × AreItems pss is) ⊎ ((line : ℕ) × IsFirstUnread pss line)
items_or_unread decide [] = inl ([], tt)
items_or_unread decide (ps ∷ pss) = by (decide ps) (items_or_unread decide pss)
  where
    by : ((i : Item) × IsItem ps i) ⊎ IsUnread ps → ((is : List Item) × AreItems pss is) ⊎ ((line : ℕ) × IsFirstUnread pss line) → ((is : List Item) × AreItems (ps ∷ pss) is) ⊎ ((line : ℕ) × IsFirstUnread (ps ∷ pss) line)
    by (inr u) more = inr (line_of ps, inl (u, refl))
    by (inl i) (inl is) = inl (i.0 ∷ is.0, (i.1, is.1))
    by (inl i) (inr l) = inr (l.0, inr (i, l.1))

pub answered : ((ps : List Terminal) → ((i : Item) × IsItem ps i) ⊎ IsUnread ps) → (ts : List Token) → HasProgram ts ⊎ HasFailure ts
answered decide ts = by (passed_at ts) refl
  where
    read : passed_at ts ≡ None → ((is : List Item) × AreItems (cut (terminals ts)) is) ⊎ ((line : ℕ) × IsFirstUnread (cut (terminals ts)) line) → HasProgram ts ⊎ HasFailure ts
    read w (inl is) = inl (record { items = is.0 }, w, is.1)
    read w (inr l) = inr (6, l.0, inr (refl, (w, l.1)))

    by : (o : Option ℕ) → passed_at ts ≡ o → HasProgram ts ⊎ HasFailure ts
    by (Some line) e = inr (23, line, inl (refl, e))
    by None e = read e (items_or_unread decide (cut (terminals ts)))

pub one_side : (ts : List Token) → HasProgram ts → HasFailure ts → ⊥
one_side ts p f = read_fails ts p.0 f.0 f.1 p.1 p.2 f.2

pub same_failure : (ts : List Token) (rule line rule' line' : ℕ) → ParseFails ts rule line → ParseFails ts rule' line' → (rule ≡ rule') × (line ≡ line')
same_failure ts rule line rule' line' f g = let e = one_failure ts rule line rule' line' f g in (cc, cc)
