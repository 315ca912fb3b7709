-- The rows of a graph against the list of its edges.
use Rattle.std.proofs.Common.{◌≡◌, ℕ, ◌<◌, ◌≤◌, ◌+◌, ⊎_elim, List, [], ◌∷◌, ◌++◌, length, get_or, set, take, replicate, sym, ap, subst, ◌∙◌, arith}
use Rattle.std.proofs.lemmas.List.{get_or-set_same, get_or-set_other, take_more, get_or-replicate, get_or_past, length-replicate}
use Rattle.std.proofs.lemmas.List.Elements.{Contains-append_left, Contains-push, Contains-push_cases}
use Rattle.std.proofs.lemmas.Bool.{cases_eq, cases_lt}
use Rattle.std.specs.List.{Contains}
use Rattle.cl_reach.specs.declared.graph.Edge.{Edge}
use Rattle.cl_reach.specs.Reach.{Leads, edge, Rows}

edge_is : (e : Edge) (a b : ℕ) → e.from ≡ a → e.to ≡ b → e ≡ edge a b
edge_is e a b f g = ap (λ (n : ℕ). edge n e.to) f ∙ ap (λ (n : ℕ). edge a n) g

abbrev pub no_targets : List ℕ
no_targets = []

pub rows_none : (nodes : ℕ) → Rows [] (replicate nodes [])
rows_none nodes = record {
  sound = λ a b l. absurd (nothing a b l);
  complete = λ a b h. absurd (omega (arith, h.1));
}
  where
    none_at : (a : ℕ) → get_or (replicate nodes no_targets) a no_targets ≡ no_targets
    none_at a = ⊎_elim (λ (l : a < nodes). get_or-replicate nodes a no_targets no_targets l) (λ (g : nodes ≤ a). get_or_past (replicate nodes no_targets) a no_targets (simp length-replicate g)) (cases_lt a nodes)

    nothing : (a b : ℕ) → Leads (replicate nodes no_targets) a b → ⊥
    nothing a b l = let n : Contains [] b = subst (λ (ys : List ℕ). Contains ys b) (none_at a) l in omega (arith, n.1)

abbrev pub with_edge : List (List ℕ) → Edge → List (List ℕ)
with_edge rows e = set rows e.from (get_or rows e.from [] ++ e.to ∷ [])

here : (rows : List (List ℕ)) (last : Edge) (a : ℕ) → last.from < length rows → a ≡ last.from → get_or (with_edge rows last) a [] ≡ get_or rows a [] ++ last.to ∷ []
here rows last a l e = subst (λ (y : ℕ). get_or (with_edge rows last) y [] ≡ get_or rows y [] ++ last.to ∷ []) (sym e) (get_or-set_same rows last.from (get_or rows last.from [] ++ last.to ∷ []) [] l)

there : (rows : List (List ℕ)) (last : Edge) (a : ℕ) → (a ≡ last.from → ⊥) → get_or (with_edge rows last) a [] ≡ get_or rows a []
there rows last a o = get_or-set_other rows last.from a (get_or rows last.from [] ++ last.to ∷ []) [] o

-- one edge more
rows_push : (es : List Edge) (last : Edge) (rows : List (List ℕ)) → last.from < length rows → Rows es rows → Rows (es ++ last ∷ []) (with_edge rows last)
rows_push es last rows l f = record {
  sound = λ a b n. ⊎_elim
      (λ (e : a ≡ last.from). ⊎_elim
      (λ (o : Contains (get_or rows a []) b). Contains-append_left es (last ∷ []) (edge a b) (f.sound a b o))
      (λ (g : last.to ≡ b). subst (λ (s : Edge). Contains (es ++ s ∷ []) (edge a b)) (sym (edge_is last a b (sym e) g)) (Contains-push es (edge a b)))
      (Contains-push_cases (get_or rows a []) last.to b (subst (λ (ys : List ℕ). Contains ys b) (here rows last a l e) n)))
      (λ (o : a ≡ last.from → ⊥). Contains-append_left es (last ∷ []) (edge a b) (f.sound a b (subst (λ (ys : List ℕ). Contains ys b) (there rows last a o) n)))
      (cases_eq a last.from);
  complete = λ a b c. ⊎_elim
      (λ (in' : Contains es (edge a b)). ⊎_elim
      (λ (e : a ≡ last.from). subst (λ (ys : List ℕ). Contains ys b) (sym (here rows last a l e)) (Contains-append_left (get_or rows a []) (last.to ∷ []) b (f.complete a b in')))
      (λ (o : a ≡ last.from → ⊥). subst (λ (ys : List ℕ). Contains ys b) (sym (there rows last a o)) (f.complete a b in'))
      (cases_eq a last.from))
      (λ (e : last ≡ edge a b). subst (λ (ys : List ℕ). Contains ys b) (sym (here rows last a l (sym (ap (λ (s : Edge). s.from) e)))) (subst (λ (t : ℕ). Contains (get_or rows a [] ++ t ∷ []) b) (sym (ap (λ (s : Edge). s.to) e)) (Contains-push (get_or rows a []) b)))
      (Contains-push_cases es last (edge a b) c);
}

pub rows_more : (edges : List Edge) (i : ℕ) (d : Edge) (rows : List (List ℕ)) → i < length edges → (get_or edges i d).from < length rows → Rows (take i edges) rows → Rows (take (i + 1) edges) (with_edge rows (get_or edges i d))
rows_more edges i d rows h l f = subst (λ (es : List Edge). Rows es (with_edge rows (get_or edges i d))) (sym (take_more edges i d h)) (rows_push (take i edges) (get_or edges i d) rows l f)
