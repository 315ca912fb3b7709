-- The places of the integers that are chosen.
use Rattle.std.proofs.Common.{◌≡◌, ℕ, zero, suc, ◌+◌, ◌*◌, ◌<◌, arith, List, [], ◌∷◌, ◌++◌, length, map, drop, get_or, refl, sym, ap, ◌∙◌, Bool, true, false, if◌then◌else◌, append_assoc, length-append}
use Rattle.std.proofs.lemmas.List.{append-nil, drop_more}
use Rattle.cl_tree.specs.declared.kinds.IntKind.{IntKind}
use Rattle.cl_tree.specs.Words.{Word}
use Rattle.cl_mean.specs.Shape.{Shape, nothing, integer, struct, array, Members, no_members, member, kinds_of, times}
use Rattle.rpc_codec.proofs.Under.{kinds_are}
use Rattle.rpc_codec.specs.declared.leaves.Leaf.{Leaf}
use Rattle.rpc_codec.specs.Leaves.{behind, leads_to, leaves, member_leaves}
use Rattle.guard_places.specs.declared.places.Place.{Place}
use Rattle.guard_places.specs.Places.{chosen_places}

abbrev place : ℕ → IntKind → Place
place at kind = record { at = at; kind = kind }

pub chosen_then : (xs ys : List Leaf) (at : ℕ) → chosen_places at (xs ++ ys) ≡ chosen_places at xs ++ chosen_places (at + length xs) ys
chosen_then [] ys at = ap (λ (n : ℕ). chosen_places n ys) (omega arith)
chosen_then (x ∷ xs) ys at = by x.chosen (chosen_then xs ys (suc at)) (omega arith)
  where
    by : (c : Bool) → chosen_places (suc at) (xs ++ ys) ≡ chosen_places (suc at) xs ++ chosen_places (suc at + length xs) ys → suc at + length xs ≡ at + suc (length xs)
        → (if c then place at x.kind ∷ chosen_places (suc at) (xs ++ ys) else chosen_places (suc at) (xs ++ ys)) ≡ (if c then place at x.kind ∷ chosen_places (suc at) xs else chosen_places (suc at) xs) ++ chosen_places (at + suc (length xs)) ys
    by true rest e = ap (λ (ps : List Place). place at x.kind ∷ ps) rest ∙ ap (λ (n : ℕ). place at x.kind ∷ (chosen_places (suc at) xs ++ chosen_places n ys)) e
    by false rest e = rest ∙ ap (λ (n : ℕ). chosen_places (suc at) xs ++ chosen_places n ys) e

-- one integer more
pub place_step : (ls : List Leaf) (i at : ℕ) (d : Leaf) (old new whole : List Place) → i < length ls → get_or ls i d ≡ d
    → new ≡ old ++ chosen_places (at + i) (d ∷ []) → old ++ chosen_places (at + i) (drop i ls) ≡ whole → new ++ chosen_places (at + (i + 1)) (drop (i + 1) ls) ≡ whole
place_step ls i at d old new whole h is added before =
    let rest : List Leaf = drop (i + 1) ls in
    let on : at + i + 1 ≡ at + (i + 1) = omega arith in
    let step : chosen_places (at + i) (drop i ls) ≡ chosen_places (at + i) (d ∷ []) ++ chosen_places (at + (i + 1)) rest =
    ap (chosen_places (at + i)) (drop_more ls i d h ∙ ap (λ (l : Leaf). l ∷ rest) is) ∙ chosen_then (d ∷ []) rest (at + i)
    ∙ ap (λ (n : ℕ). chosen_places (at + i) (d ∷ []) ++ chosen_places n rest) on in
    ap (λ (ps : List Place). ps ++ chosen_places (at + (i + 1)) rest) added ∙ append_assoc old (chosen_places (at + i) (d ∷ [])) (chosen_places (at + (i + 1)) rest)
    ∙ ap (λ (ps : List Place). old ++ ps) (sym step) ∙ before

-- ---- so many of the same

pub none_times : (n : ℕ) (xs : List Leaf) (at : ℕ) → ((k : ℕ) → chosen_places k xs ≡ []) → chosen_places at (times n xs) ≡ []
none_times zero xs at none = refl
none_times (suc n) xs at none = chosen_then xs (times n xs) at ∙ rw (none at, none_times n xs (at + length xs) none) refl

times_plus : (m n : ℕ) (xs : List Leaf) → times (m + n) xs ≡ times m xs ++ times n xs
times_plus zero n xs = let e : zero + n ≡ n = omega arith in ap (λ (k : ℕ). times k xs) e
times_plus (suc m) n xs =
    let e : suc m + n ≡ suc (m + n) = omega arith in
    ap (λ (k : ℕ). times k xs) e ∙ ap (λ (ys : List Leaf). xs ++ ys) (times_plus m n xs) ∙ sym (append_assoc xs (times m xs) (times n xs))

pub times_times : (m n : ℕ) (xs : List Leaf) → times m (times n xs) ≡ times (m * n) xs
times_times zero n xs = let e : zero ≡ zero * n = grind arith in ap (λ (k : ℕ). times k xs) e
times_times (suc m) n xs =
    let e : n + m * n ≡ suc m * n = grind arith in
    ap (λ (ys : List Leaf). times n xs ++ ys) (times_times m n xs) ∙ sym (times_plus n (m * n) xs) ∙ ap (λ (k : ℕ). times k xs) e

times_one : (n : ℕ) (xs : List Leaf) → times (n + 1) xs ≡ times n xs ++ xs
times_one n xs = times_plus n 1 xs ∙ ap (λ (ys : List Leaf). times n xs ++ ys) (append-nil xs)

pub length_times : (n : ℕ) (xs : List Leaf) → length (times n xs) ≡ n * length xs
length_times zero xs = grind arith
length_times (suc n) xs =
    let e : length xs + n * length xs ≡ suc n * length xs = grind arith in
    length-append xs (times n xs) ∙ ap (λ (k : ℕ). length xs + k) (length_times n xs) ∙ e

pub next_at : (start n stride next more : ℕ) → next ≡ start + n * stride → more ≡ next + stride → more ≡ start + (n + 1) * stride
next_at start n stride next more is added = grind (arith, is, added)

-- one more of them behind those that stand there
pub each_step : (n stride start next : ℕ) (xs : List Leaf) (old new before : List Place) → length xs ≡ stride → next ≡ start + n * stride
    → new ≡ old ++ chosen_places next xs → old ≡ before ++ chosen_places start (times n xs) → new ≡ before ++ chosen_places start (times (n + 1) xs)
each_step n stride start next xs old new before long is added so_far =
    let here : next ≡ start + length (times n xs) = is ∙ ap (λ (k : ℕ). start + k) (ap (λ (k : ℕ). n * k) (sym long) ∙ sym (length_times n xs)) in
    let split : chosen_places start (times (n + 1) xs) ≡ chosen_places start (times n xs) ++ chosen_places next xs =
    ap (chosen_places start) (times_one n xs) ∙ chosen_then (times n xs) xs start ∙ ap (λ (k : ℕ). chosen_places start (times n xs) ++ chosen_places k xs) (sym here) in
    added ∙ ap (λ (ps : List Place). ps ++ chosen_places next xs) so_far ∙ append_assoc before (chosen_places start (times n xs)) (chosen_places next xs)
    ∙ ap (λ (ps : List Place). before ++ ps) (sym split)

-- ---- a path that leads elsewhere has no integer under it

leads_nowhere : (path : List Word) (name : Word) → leads_to false path name ≡ false
leads_nowhere [] name = refl
leads_nowhere (p ∷ path) name = refl

mutual
  pub elsewhere : (s : Shape) (path : List Word) (at : ℕ) → chosen_places at (leaves s false path) ≡ []
  elsewhere nothing path at = refl
  elsewhere (integer kind) path at = refl
  elsewhere (struct ms) path at = members_elsewhere ms path at
  elsewhere (array element size) path at = none_times size (leaves element false path) at (elsewhere element path)

  members_elsewhere : (ms : Members) (path : List Word) (at : ℕ) → chosen_places at (member_leaves ms false path) ≡ []
  members_elsewhere no_members path at = refl
  members_elsewhere (member name s ms) path at =
      chosen_then (leaves s (leads_to false path name) (behind path)) (member_leaves ms false path) at
      ∙ ap (λ (on : Bool). chosen_places at (leaves s on (behind path)) ++ chosen_places (at + length (leaves s (leads_to false path name) (behind path))) (member_leaves ms false path)) (leads_nowhere path name)
      ∙ rw (elsewhere s (behind path) at) (members_elsewhere ms path (at + length (leaves s (leads_to false path name) (behind path))))

-- ---- how many there are

length_kinds : (xs : List Leaf) → length (map (λ l. l.kind) xs) ≡ length xs
length_kinds [] = refl
length_kinds (x ∷ xs) = ap (λ (n : ℕ). suc n) (length_kinds xs)

-- they are as many under each path
pub same_count : (s : Shape) (on : Bool) (path : List Word) → length (leaves s on path) ≡ length (leaves s true [])
same_count s on path =
    sym (length_kinds (leaves s on path)) ∙ ap length (kinds_are s on path ∙ sym (kinds_are s true [])) ∙ length_kinds (leaves s true [])

none_there : (xs : List Leaf) → length xs ≡ 0 → xs ≡ []
none_there [] e = refl
none_there (x ∷ xs) e = absurd (omega (arith, e))

pub no_leaves : (s : Shape) (on : Bool) (path : List Word) → length (leaves s true []) ≡ 0 → leaves s on path ≡ []
no_leaves s on path e = none_there (leaves s on path) (same_count s on path ∙ e)
