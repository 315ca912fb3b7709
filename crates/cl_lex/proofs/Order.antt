-- The tokens of a source stand in its order.
use Rattle.std.proofs.Common.{◌≡◌, ℕ, suc, zero, ◌+◌, ◌-◌, ◌<◌, ◌≤◌, List, [], ◌∷◌, ◌++◌, length, map, drop, get_or, refl, sym, ap, ◌∙◌, subst, arith, length-append}
use Rattle.std.proofs.lemmas.List.{get_or-drop, drop-drop, length-drop}
use Rattle.std.proofs.lemmas.Bool.Decides.{nat_tests}
use Rattle.cl_tree.specs.declared.pieces.Place.{Place}
use Rattle.cl_tree.specs.declared.pieces.PieceMeaning.{PieceMeaning}
use Rattle.cl_tree.specs.declared.pieces.PieceMeaning.TheVariants.{Blank, Bad, Is, Defines}
use Rattle.cl_tree.specs.declared.token.Token.{Token}
use Rattle.std.specs.Prelude.{◌==◌, Result, Ok, Err, IfOk}
use Rattle.cl_tree.specs.Joins.{bytes_of, places_of, cell, cells, join_len, line_after}
use Rattle.cl_tree.specs.Tokens.{Definitions, Before, at_start, behind, piece_meaning, IsCut, token_as, tokens_from, both_text, glued, joined_behind, joined, AreTokens}
use Rattle.cl_lex.specs.Laws.{InOrder, AreInOrder}
use Rattle.cl_literals.proofs.Tests.{by_test}
use Rattle.cl_lex.proofs.Joins.{same_len}
use Rattle.cl_lex.proofs.Cuts.{piece_some}

-- bytes in the order of the source
abbrev Placed : ℕ → ℕ → ℕ → List Place → Type 0
Placed from line end [] = from ≤ end
Placed from line end (p ∷ ps) = (from ≤ p.start) × (p.start < p.end) × (line ≤ p.line) × Placed p.end p.line end ps

placed_ends : (from line end : ℕ) (ps : List Place) → Placed from line end ps → from ≤ end
placed_ends from line end [] h = h
placed_ends from line end (p ∷ ps) h = let r = placed_ends p.end p.line end ps h.3 in omega (arith, h.0, h.1)

weaken : (from to line above end : ℕ) (ps : List Place) → to ≤ from → above ≤ line → Placed from line end ps → Placed to above end ps
weaken from to line above end [] a b h = omega arith
weaken from to line above end (p ∷ ps) a b h = (omega (arith, h.0), h.1, omega (arith, h.2), h.3)

line_grows : (line b : ℕ) → line ≤ line_after line b
unfolding line_after
line_grows line b = grind (arith, nat_tests)

cells_placed : (skip start line from above : ℕ) (bs : List ℕ) → from ≤ start → above ≤ line → Placed from above (start + length bs) (map (λ c. c.place) (cells skip start line bs))
cells_placed skip start line from above [] a b = omega arith
cells_placed (suc k) start line from above (x ∷ bs) a b =
    let g = line_grows line x in
    let e : start + 1 + length bs ≡ start + suc (length bs) = omega arith in
    subst (λ n. Placed from above n (map (λ c. c.place) (cells k (start + 1) (line_after line x) bs))) e (cells_placed k (start + 1) (line_after line x) from above bs (omega arith) (omega arith))
cells_placed zero start line from above (x ∷ bs) a b =
    let g = line_grows line x in
    let e : start + 1 + length bs ≡ start + suc (length bs) = omega arith in
    by_test (λ cs. Placed from above (start + suc (length bs)) (map (λ c. c.place) cs)) (join_len (x ∷ bs) == 0) (cell start line x ∷ cells 0 (start + 1) (line_after line x) bs) (cells (join_len (x ∷ bs) - 1) (start + 1) (line_after line x) bs)
    (a, omega arith, b, subst (λ n. Placed (start + 1) line n (map (λ c. c.place) (cells 0 (start + 1) (line_after line x) bs))) e (cells_placed 0 (start + 1) (line_after line x) (start + 1) line bs (omega arith) g))
    (subst (λ n. Placed from above n (map (λ c. c.place) (cells (join_len (x ∷ bs) - 1) (start + 1) (line_after line x) bs))) e (cells_placed (join_len (x ∷ bs) - 1) (start + 1) (line_after line x) from above bs (omega arith) (omega arith)))

drop_placed : (n from line end : ℕ) (ps : List Place) → Placed from line end ps → Placed from line end (drop n ps)
drop_placed zero from line end ps h = h
drop_placed (suc n) from line end [] h = h
drop_placed (suc n) from line end (p ∷ ps) h = weaken p.end from p.line line end (drop n ps) (omega (arith, h.0, h.1)) h.2 (drop_placed n p.end p.line end ps h.3)

-- some bytes, from the first a to the last b, and what stands behind them
abbrev Spans : ℕ → ℕ → ℕ → Place → Place → List Place → Type 0
Spans from line end a b ps = (from ≤ a.start) × (a.start < b.end) × (line ≤ a.line) × Placed b.end a.line end ps

spans : (n from line end : ℕ) (d : Place) (ps : List Place) → n < length ps → Placed from line end ps → Spans from line end (get_or ps 0 d) (get_or ps n d) (drop (suc n) ps)
spans n from line end d [] w h = absurd (omega arith)
spans zero from line end d (p ∷ ps) w h = h
spans (suc n) from line end d (p ∷ []) w h = absurd (omega arith)
spans (suc n) from line end d (p ∷ q ∷ ps) w h =
    let r = spans n p.end p.line end d (q ∷ ps) (omega arith) h.3 in
    (h.0, omega (arith, h.1, r.0, r.1), h.2, weaken _ _ q.line p.line end _ (omega arith) r.2 r.3)

nowhere : Place
nowhere = record { line = 0; start = 0; end = 0 }

token_spans : (places : List Place) (at n from line end : ℕ) (d : Place) → 0 < n → n ≤ length (drop at places) → Placed from line end (drop at places) → Spans from line end (get_or places at d) (get_or places (at + n - 1) d) (drop (at + n) places)
token_spans places at n from line end d p w h =
    let e : suc (n - 1) ≡ n = omega arith in
    let z : at + 0 ≡ at = omega arith in
    let l : at + (n - 1) ≡ at + n - 1 = omega arith in
    let first : get_or (drop at places) 0 d ≡ get_or places at d = get_or-drop at places 0 d ∙ ap (λ k. get_or places k d) z in
    let last : get_or (drop at places) (n - 1) d ≡ get_or places (at + n - 1) d = get_or-drop at places (n - 1) d ∙ ap (λ k. get_or places k d) l in
    let rest : drop (suc (n - 1)) (drop at places) ≡ drop (at + n) places = ap (λ k. drop k (drop at places)) e ∙ drop-drop n at places in
    let s = spans (n - 1) from line end d (drop at places) (omega arith) h in
    subst (λ (x : List Place). Spans from line end (get_or places at d) (get_or places (at + n - 1) d) x) rest
    (subst (λ (b : Place). Spans from line end (get_or places at d) b (drop (suc (n - 1)) (drop at places))) last
    (subst (λ (a : Place). Spans from line end a (get_or (drop at places) (n - 1) d) (drop (suc (n - 1)) (drop at places))) first s))

-- what stands behind one piece
one_order : (m : Definitions) (x : PieceMeaning) (places : List Place) (at n from line end : ℕ) (later : List Token) → 0 < n → n ≤ length (drop at places) → Placed from line end (drop at places) → ((f l : ℕ) → Placed f l end (drop (at + n) places) → InOrder f l end later) → InOrder from line end (token_as m x places at n ++ later)
one_order m Blank places at n from line end later p w h k = k from line (subst (Placed from line end) (drop-drop n at places) (drop_placed n from line end (drop at places) h))
one_order m (Bad rule i) places at n from line end later p w h k = k from line (subst (Placed from line end) (drop-drop n at places) (drop_placed n from line end (drop at places) h))
one_order m (Defines name l i) places at n from line end later p w h k = k from line (subst (Placed from line end) (drop-drop n at places) (drop_placed n from line end (drop at places) h))
one_order m (Is what) places at n from line end later p w h k = let s = token_spans places at n from line end _ p w h in (s.0, s.1, s.2, k _ _ s.3)

tokens_order : (places : List Place) (s : Before) (at : ℕ) (ps : List (List ℕ)) (text rest : List ℕ) (last : Before) (from line end : ℕ) → IsCut s ps text last rest → length text ≤ length (drop at places) → Placed from line end (drop at places) → InOrder from line end (tokens_from places s at ps)
tokens_order places s at [] text rest last from line end c w h = placed_ends from line end (drop at places) h
tokens_order places s at (p ∷ ps) text rest last from line end c w h =
    let some = piece_some s.fresh p c.0.piece in
    let l : length text ≡ length p + length c.2 = ap length c.3 ∙ length-append p c.2 in
    let d : drop (length p) (drop at places) ≡ drop (at + length p) places = drop-drop (length p) at places in
    let r : length (drop (at + length p) places) ≡ length (drop at places) - length p = ap length (sym d) ∙ length-drop (length p) (drop at places) in
    one_order s.definitions (piece_meaning s.fresh p) places at (length p) from line end _ some (omega arith) h (λ f g q. tokens_order places (behind s p) (at + length p) ps c.2 rest last f g end c.4 (omega arith) q)

weaken_tokens : (from line above end : ℕ) (ts : List Token) → above ≤ line → InOrder from line end ts → InOrder from above end ts
weaken_tokens from line above end [] a h = h
weaken_tokens from line above end (t ∷ ts) a h = (h.0, h.1, omega (arith, h.2), h.3)

behind_order : (u : Token) (ts : List Token) (from line end : ℕ) → InOrder from line end (u ∷ ts) → InOrder from line end (joined_behind u ts)
behind_order u [] from line end h = h
behind_order u (t ∷ ts) from line end h =
    by_test (InOrder from line end) (both_text u.what t.what) (joined_behind (glued u t) ts) (u ∷ joined_behind t ts)
    (behind_order (glued u t) ts from line end (h.0, omega (arith, h.1, h.3.0, h.3.1), h.2, weaken_tokens t.end t.line u.line end ts h.3.2 h.3.3))
    (h.0, h.1, h.2, behind_order t ts u.end u.line end h.3)

joined_order : (ts : List Token) (from line end : ℕ) → InOrder from line end ts → InOrder from line end (joined ts)
joined_order [] from line end h = h
joined_order (t ∷ ts) from line end h = behind_order t ts from line end h

places_placed : (source : List ℕ) → Placed 0 1 (length source) (places_of source)
unfolding places_of
places_placed source = let e : 0 + length source ≡ length source = omega arith in subst (λ n. Placed 0 1 n (map (λ c. c.place) (cells 0 0 1 source))) e (cells_placed 0 0 1 0 1 source (omega arith) (omega arith))

pub in_order : (source : List ℕ) (ts : List Token) → AreTokens source ts → AreInOrder source ts
in_order source ts a =
    let l = same_len source (bytes_of source) (places_of source) refl refl in
    subst (InOrder 0 1 (length source)) (sym a.tokens)
    (joined_order _ 0 1 (length source) (tokens_order (places_of source) at_start 0 a.pieces (bytes_of source) [] a.last 0 1 (length source) a.cut (omega arith) (places_placed source)))

pub found_order : {V E : Type 0} (items : V → List Token) (r : Result V E) (source : List ℕ) → IfOk r (λ v. AreTokens source (items v)) → IfOk r (λ v. AreInOrder source (items v))
found_order items (Ok v) source a = in_order source (items v) a
found_order items (Err e) source a = tt
