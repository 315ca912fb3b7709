-- One part further in a walk over lists.
use Rattle.std.proofs.Common.{◌≡◌, ℕ, suc, ◌+◌, ◌<◌, ◌≤◌, List, [], ◌∷◌, ◌++◌, map, drop, drop-cons, add-one, length, slice_index_or, Bool, refl, sym, ap, subst, ◌∙◌, append_assoc, Err}
use Rattle.std.specs.List.{flat_map}
use Rattle.std.proofs.lemmas.List.{drop_all, append-nil}
use Rattle.cl_typing.specs.Rules.{Lines, unless}
use Rattle.cl_scope.specs.Finds.{Finds}
use Rattle.cl_scope.specs.declared.stop.Stop.{Stop}
use Rattle.cl_scope.specs.declared.stop.Stop.TheVariants.{At, NoMemory}
use Rattle.cl_scope.proofs.Searches.{begins_front}
use Rattle.cl_levels.specs.declared.uses.Body.{Body}
use Rattle.cl_levels.specs.declared.uses.Use.{Use}
use Rattle.cl_levels.specs.Uses.{each_from}

-- what an element and those behind it come to
pub next : {A B : Type 0} (f : B → List A) (xs : List B) (i : ℕ) (x : B) → i < length xs → x ≡ slice_index_or xs i x
    → flat_map f (drop i xs) ≡ f x ++ flat_map f (drop (i + 1) xs)
next f xs i x within is = rw (add-one i) (ap (flat_map f) (drop-cons xs i x within ∙ ap (λ y. y ∷ drop (suc i) xs) (sym is)))

pub none_left : {A B : Type 0} (f : B → List A) (xs : List B) (i : ℕ) → length xs ≤ i → flat_map f (drop i xs) ≡ []
none_left f xs i past = ap (flat_map f) (drop_all i xs past)

-- what was found so far, and what one part more gives
pub joined : {A : Type 0} (old new part rest whole behind : List A) → new ≡ old ++ part → rest ≡ part ++ behind → old ++ rest ≡ whole
    → new ++ behind ≡ whole
joined old new part rest whole behind e f h = ap (λ xs. xs ++ behind) e ∙ append_assoc old part behind ∙ ap (λ xs. old ++ xs) (sym f) ∙ h

pub one_more : {A B : Type 0} (f : B → List A) (xs : List B) (i : ℕ) (x : B) (old new whole : List A) → i < length xs → x ≡ slice_index_or xs i x
    → new ≡ old ++ f x → old ++ flat_map f (drop i xs) ≡ whole → new ++ flat_map f (drop (i + 1) xs) ≡ whole
one_more f xs i x old new whole within is e rest =
    joined old new (f x) (flat_map f (drop i xs)) whole (flat_map f (drop (i + 1) xs)) e (next f xs i x within is) rest

pub all_found : {A : Type 0} (found rest whole : List A) → rest ≡ [] → found ++ rest ≡ whole → found ≡ whole
all_found found rest whole e h = sym (append-nil found) ∙ ap (λ xs. found ++ xs) (sym e) ∙ h

-- the same of the uses of functions
pub next_body : {A : Type 0} (gives : ℕ → Use → List A) (bodies : List Body) (i : ℕ) (b : Body) → i < length bodies → b ≡ slice_index_or bodies i b
    → each_from gives i (map (λ b. b.uses) (drop i bodies)) ≡ flat_map (gives i) b.uses ++ each_from gives (i + 1) (map (λ b. b.uses) (drop (i + 1) bodies))
unfolding each_from
next_body gives bodies i b within is =
    rw (add-one i) (ap (λ bs. each_from gives i (map (λ b. b.uses) bs)) (drop-cons bodies i b within ∙ ap (λ y. y ∷ drop (suc i) bodies) (sym is)))

pub no_body_left : {A : Type 0} (gives : ℕ → Use → List A) (bodies : List Body) (i f : ℕ) → length bodies ≤ i
    → each_from gives f (map (λ b. b.uses) (drop i bodies)) ≡ []
unfolding each_from
no_body_left gives bodies i f past = ap (λ bs. each_from gives f (map (λ b. b.uses) bs)) (drop_all i bodies past)

-- a search that goes on behind parts without a place, or ends in one
pub passed : (part rest whole behind : Lines) → part ≡ [] → rest ≡ part ++ behind → rest ≡ whole → behind ≡ whole
passed part rest whole behind e f h = ap (λ ls. ls ++ behind) (sym e) ∙ sym f ∙ h

pub ended : (stop : Stop) (part rest whole behind : Lines) → Finds (Err stop) part → rest ≡ part ++ behind → rest ≡ whole → Finds (Err stop) whole
ended (At line) part rest whole behind found f h = subst (λ ls. Finds (Err (At line)) ls) (sym f ∙ h) (begins_front part behind line found)
ended NoMemory part rest whole behind found f h = found
