-- The items of a program, one part further.
use Rattle.std.proofs.Common.{◌≡◌, ℕ, suc, ◌≤◌, ◌+◌, List, [], ◌∷◌, ◌++◌, length, drop, add-one, append_assoc, refl, sym, ap, ◌∙◌, subst}
use Rattle.std.proofs.lemmas.List.{append-nil, map-append}
use Rattle.cl_tree.specs.Words.{Word}
use Rattle.cl_labelling.specs.Regions.{Role, is_item, Part, Marked, itself, open_after, waiting_after, marked_in}
use Rattle.cl_regions.specs.Few.{Few, few, few_of, both}
use Rattle.cl_regions.specs.Roles.{subject_of}
use Rattle.cl_regions.specs.Marks.{Kept, kept, all_kept, kept_one, kept_all, IsAround, AreMarked}
use Rattle.cl_regions.specs.declared.marks.Marked as code
use Rattle.cl_regions.specs.declared.marks.Around.{Around}
use Rattle.cl_regions.proofs.Aheads.{drop_past}
use Rattle.cl_regions.proofs.Steps.{after_few}

both_more : (a b : List Word) → few (a ++ b) ≡ both (few a) (few b)
both_more [] b = refl
both_more (w ∷ []) [] = refl
both_more (w ∷ []) (v ∷ []) = refl
both_more (w ∷ []) (v ∷ u ∷ b) = refl
both_more (w ∷ v ∷ a) [] = refl
both_more (w ∷ v ∷ a) (u ∷ []) = refl
both_more (w ∷ v ∷ a) (u ∷ t ∷ b) = refl

pub both_few : (a b : List Word) (x y : Few) → x ≡ few a → y ≡ few b → both x y ≡ few (a ++ b)
both_few a b x y e f = ap (λ (z : Few). both z y) e ∙ ap (both (few a)) f ∙ sym (both_more a b)

pub one_before : (w : Word) (ws : List Word) → few (w ∷ ws) ≡ both (few (w ∷ [])) (few ws)
one_before w ws = both_more (w ∷ []) ws

-- ---- items one behind the other

pub nothing_more : (ks : List Kept) → ks ≡ ks ++ []
nothing_more ks = sym (append-nil ks)

pub two_more : (a b c : List Kept) (x y : List Marked) → b ≡ a ++ all_kept x → c ≡ b ++ all_kept y
    → c ≡ a ++ all_kept (x ++ y)
two_more a b c x y e f =
    f ∙ ap (λ (ks : List Kept). ks ++ all_kept y) e ∙ append_assoc a (all_kept x) (all_kept y)
    ∙ ap (λ (ks : List Kept). a ++ ks) (sym (map-append kept x y))

pub one_pushed : (old new : List code.Marked) (m : code.Marked) (ws : List Word) → new ≡ old ++ m ∷ []
    → few_of m.labels ≡ few ws
    → kept_all new ≡ kept_all old ++ all_kept (itself (is_item (subject_of m.subject)) m.line ws)
one_pushed old new m ws e f =
    ap kept_all e ∙ map-append kept_one old (m ∷ [])
    ∙ ap (λ (l : Few). kept_all old ++ record { subject = subject_of m.subject; line = m.line; labels = l } ∷ []) f

pub ruleset marking = (nothing_more, two_more, one_pushed)

-- ---- one part further

same_itself : (role : Role) (line at : ℕ) (ws : List Word) → line ≡ at
    → all_kept (itself role line ws) ≡ all_kept (itself role at ws)
same_itself role line at ws e = ap (λ (n : ℕ). all_kept (itself role n ws)) e

pub marks_next : (around new : Around) (marks first second : List code.Marked) (ps : List Part) (p : Part) (i : ℕ)
    (whole : List Kept) (so : AreMarked around marks ps i whole) → drop i ps ≡ p ∷ drop (suc i) ps
    → kept_all first ≡ kept_all marks ++ all_kept (itself p.role p.line (so.waiting ++ so.begun))
    → kept_all second ≡ kept_all first ++ all_kept p.inner
    → IsAround new (open_after so.begun p.role) (waiting_after so.waiting p.role)
    → AreMarked new second ps (i + 1) whole
unfolding marked_in
marks_next around new marks first second ps p i whole so e f g h =
    let later = marked_in (open_after so.begun p.role) (waiting_after so.waiting p.role) (drop (suc i) ps) in
    let own = itself p.role p.line (so.waiting ++ so.begun) in
    let r : kept_all marks ++ all_kept (own ++ (p.inner ++ later)) ≡ whole =
    subst (λ (x : List Part). kept_all marks ++ all_kept (marked_in so.begun so.waiting x) ≡ whole) e so.rest in
    let k : kept_all second ++ all_kept later ≡ whole =
    two_more (kept_all marks) (kept_all second) (kept_all second ++ all_kept later) (own ++ p.inner) later
    (two_more (kept_all marks) (kept_all first) (kept_all second) own p.inner f g) refl
    ∙ ap (λ (x : List Marked). kept_all marks ++ all_kept x) (append_assoc own p.inner later) ∙ r in
    rw add-one (record {
      begun = open_after so.begun p.role;
      waiting = waiting_after so.waiting p.role;
      few = rw (← add-one) (after_few p.role so.begun i so.few);
      here = h;
      rest = k;
    })

pub marks_end : (around : Around) (marks : List code.Marked) (ps : List Part) (i : ℕ) (whole : List Kept)
    → AreMarked around marks ps i whole → length ps ≤ i → kept_all marks ≡ whole
unfolding marked_in
marks_end around marks ps i whole so h =
    sym (append-nil (kept_all marks))
    ∙ ap (λ (x : List Part). kept_all marks ++ all_kept (marked_in so.begun so.waiting x)) (sym (drop_past ps i h))
    ∙ so.rest
