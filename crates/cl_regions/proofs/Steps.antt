-- One part further.
use Rattle.std.proofs.Common.{◌≡◌, ℕ, suc, ◌<◌, ◌≤◌, ◌+◌, ◌-◌, List, [], ◌∷◌, ◌++◌, map, length, reverse, drop, get_or, take, drop-cons, add-one, sym, ap, ◌∙◌, subst, arith, Bool, Option, Some, Result, Ok, Err}
use Rattle.std.proofs.lemmas.List.{reverse-append, drop-map}
use Rattle.std.specs.Option.{MatchOption, option_to_list}
use Rattle.std.specs.Result.{IsErrAnd}
use Rattle.cl_tree.specs.declared.token.Pragma.TheVariants as pragma
use Rattle.cl_tree.specs.Words.{Word}
use Rattle.cl_typing.specs.Rules.{Lines, Begins, unless}
use Rattle.cl_labelling.specs.Regions.{Role, says, is_item, passed_over, bars, Part, is_regular, open_after, bad_regions}
use Rattle.cl_scope.specs.Finds.{Finds}
use Rattle.cl_scope.specs.declared.stop.Stop.{Stop}
use Rattle.cl_scope.specs.declared.stop.Stop.TheVariants.{At, NoMemory}
use Rattle.cl_scope.proofs.Searches.{begins_front, begins_behind}
use Rattle.cl_regions.specs.Ahead.{is_regular_ahead, all_ahead}
use Rattle.cl_regions.specs.Walks.{IsAt, IsSoFar}
use Rattle.cl_regions.specs.declared.places.Walk.{Walk}
use Rattle.cl_regions.proofs.Aheads.{without_few, drop_past, popped}

pub after_few : (role : Role) (begun : List Word) (n : ℕ) → length begun ≤ n → length (open_after begun role) ≤ n + 1
after_few (says (pragma.Begin name)) begun n h = omega arith
after_few (says (pragma.End name)) begun n h = let k = without_few begun name in omega arith
after_few (says (pragma.Def name text)) begun n h = omega arith
after_few (says (pragma.Next name)) begun n h = omega arith
after_few (is_item subject) begun n h = omega arith
after_few passed_over begun n h = omega arith
after_few bars begun n h = omega arith

-- the parts behind the next one
pub at_part : {X : Type 0} → (f : X → Part) (xs : List X) (x : X) (i : ℕ) → i < length xs → x ≡ get_or xs i x
    → drop i (map f xs) ≡ f x ∷ drop (suc i) (map f xs)
at_part f xs x i h is = drop-map f i xs ∙ ap (map f) (drop-cons xs i x h)
    ∙ ap (λ y. f y ∷ map f (drop (suc i) xs)) (sym is) ∙ ap (λ ps. f x ∷ ps) (sym (drop-map f (suc i) xs))

pub here_at : (walk : Walk) (ps : List Part) (p : Part) (rest : List Part) (i : ℕ) (whole : Lines)
    → (so : IsSoFar walk ps i whole) → drop i ps ≡ p ∷ rest → IsAt walk so.begun (p ∷ rest)
here_at walk ps p rest i whole so e = subst (λ (x : List Part). IsAt walk so.begun x) e so.here

pub none_left : (walk : Walk) (ps : List Part) (i : ℕ) (whole : Lines) → IsSoFar walk ps i whole → length ps ≤ i
    → whole ≡ []
unfolding bad_regions
none_left walk ps i whole so h = sym so.rest ∙ ap (bad_regions so.begun) (drop_past ps i h)

pub rest_at : (walk : Walk) (ps : List Part) (p : Part) (rest : List Part) (i : ℕ) (whole : Lines)
    → (so : IsSoFar walk ps i whole) → drop i ps ≡ p ∷ rest
    → unless (is_regular so.begun rest p.role) p.line ++ (p.flaws ++ bad_regions (open_after so.begun p.role) rest)
    ≡ whole
unfolding bad_regions
rest_at walk ps p rest i whole so e = subst (λ (x : List Part). bad_regions so.begun x ≡ whole) e so.rest

pub next_at : (walk new : Walk) (ps : List Part) (p : Part) (i : ℕ) (whole : Lines)
    → (so : IsSoFar walk ps i whole) → drop i ps ≡ p ∷ drop (suc i) ps
    → (line : ℕ) → p.line ≡ line → unless (is_regular so.begun (drop (suc i) ps) p.role) line ≡ [] → p.flaws ≡ []
    → IsAt new (open_after so.begun p.role) (drop (suc i) ps)
    → IsSoFar new ps (i + 1) whole
next_at walk new ps p i whole so e line is v f h =
    let u = ap (unless (is_regular so.begun (drop (suc i) ps) p.role)) is ∙ v in
    let r = rest_at walk ps p (drop (suc i) ps) i whole so e in
    let k : bad_regions (open_after so.begun p.role) (drop (suc i) ps) ≡ whole =
    subst (λ (ls : Lines). ls ++ bad_regions (open_after so.begun p.role) (drop (suc i) ps) ≡ whole) f
    (subst (λ (ls : Lines). ls ++ (p.flaws ++ bad_regions (open_after so.begun p.role) (drop (suc i) ps)) ≡ whole) u r) in
    rw add-one (record {
      begun = open_after so.begun p.role;
      few = rw (← add-one) (after_few p.role so.begun i so.few);
      here = h;
      rest = k;
    })

pub popped_at : (walk : Walk) (begun : List Word) (p : Part) (ps : List Part) (r : Option Bool) (new : List Bool) (n m : ℕ)
    → IsAt walk begun (p ∷ ps) → walk.ahead.items ≡ new ++ option_to_list r → new ≡ take (n - 1) walk.ahead.items
    → MatchOption r ((n ≡ 0) × (m ≡ 0)) (λ _. m + 1 ≡ n)
    → (r ≡ Some (is_regular_ahead ps p.role)) × (new ≡ reverse (all_ahead ps))
unfolding all_ahead
popped_at walk begun p ps r new n m h e t c =
    popped r walk.ahead.items new (reverse (all_ahead ps)) (is_regular_ahead ps p.role) n m e t c
    (h.ahead ∙ reverse-append (is_regular_ahead ps p.role ∷ []) (all_ahead ps))

-- a place in the first part, or in the second
pub front : (e : Stop) (b : Bool) (line at : ℕ) (ls : Lines) → at ≡ line → Finds (Err e) (unless b line)
    → Finds (Err e) (unless b at ++ ls)
front (At n) b line at ls is h = begins_front (unless b at) ls n (subst (λ (x : ℕ). Begins (unless b x) n) (sym is) h)
front NoMemory b line at ls is h = tt

pub behind : (e : Stop) (b : Bool) (line at : ℕ) (ls rest : Lines) → at ≡ line → unless b line ≡ [] → Finds (Err e) ls
    → Finds (Err e) (unless b at ++ (ls ++ rest))
behind (At n) b line at ls rest is u h =
    begins_behind (unless b at) (ls ++ rest) n (ap (unless b) is ∙ u) (begins_front ls rest n h)
behind NoMemory b line at ls rest is u h = tt

-- what is handed on
pub handed : (r : Result (Unit {0}) Stop) (e : Stop) (ls : Lines) → IsErrAnd r (λ x. x ≡ e) → Finds (Err e) ls
    → Finds r ls
handed (Ok x) e ls h f = absurd h
handed (Err x) e ls h f = subst (λ (y : Stop). Finds (Err y) ls) (sym h) f
