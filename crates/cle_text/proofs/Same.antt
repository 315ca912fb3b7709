-- Lists that are compared, and words that are distinct.
use Rattle.std.proofs.Common.{◌≡◌, ◌≤◌, ◌-◌, ℕ, suc, Bool, false, not, ◌&&◌, nat_eq, List, [], ◌∷◌, map, drop, length, refl, ap, sym, ◌∙◌, arith, bytes_eq}
use Rattle.std.proofs.lemmas.List.{drop_all, length-drop}
use Rattle.std.proofs.lemmas.Bool.Decides.{nat_tests}
use Rattle.std.specs.List.{list_all}
use Rattle.cl_labelling.specs.declared.draft.Names.{Names}
use Rattle.cl_labelling.specs.declared.draft.EntryDraft.{EntryDraft}
use Rattle.cl_labelling.specs.Text.{same_lists, are_distinct}

-- ---- lists of names

none_left : (n : ℕ) → false ≡ nat_eq 0 (suc n)
none_left n = grind (arith, nat_tests)

same_nil : (ws : List Names) → same_lists [] ws ≡ nat_eq 0 (length ws)
unfolding same_lists
same_nil [] = refl
same_nil (w ∷ ws) = none_left (length ws)

left_over : (a b i : ℕ) → i ≡ a → i ≤ b → nat_eq 0 (b - i) ≡ nat_eq a b
left_over a b i e h = grind (arith, nat_tests)

pub same_end : (vs ws : List Names) (i : ℕ) → length vs ≤ i → i ≤ length vs → i ≤ length ws
    → same_lists (drop i vs) (drop i ws) ≡ nat_eq (length vs) (length ws)
same_end vs ws i h j k =
    let e : i ≡ length vs = omega arith in
    ap (λ (xs : List Names). same_lists xs (drop i ws)) (drop_all i vs h) ∙ same_nil (drop i ws)
    ∙ ap (nat_eq 0) (length-drop i ws) ∙ left_over (length vs) (length ws) i e k

-- ---- distinct words

pub distinct_first : (es : List EntryDraft) (e : EntryDraft) (others : List EntryDraft) (b : Bool) → es ≡ e ∷ others
    → b ≡ list_all (λ v. not (bytes_eq e.remote v)) (map (λ (x : EntryDraft). x.remote) others)
    → are_distinct (map (λ (x : EntryDraft). x.remote) es)
    ≡ (b && are_distinct (map (λ (x : EntryDraft). x.remote) others))
unfolding are_distinct
distinct_first es e others b h k =
    ap (λ (xs : List EntryDraft). are_distinct (map (λ (x : EntryDraft). x.remote) xs)) h
    ∙ ap (λ (c : Bool). c && are_distinct (map (λ (x : EntryDraft). x.remote) others)) (sym k)
