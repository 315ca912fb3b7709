-- The walk that keeps counts finds the first terminal that passes a limit.
use Rattle.std.proofs.Common.{◌≡◌, ℕ, suc, ◌+◌, List, [], ◌∷◌, length, refl, sym, ap, ◌∙◌, arith, Bool, true, false, cond, ◌||◌, nat_lt, if◌then◌else◌, Option, Some, None}
use Rattle.std.specs.Prelude.{count_by}
use Rattle.std.proofs.lemmas.List.Sums.{sum_by-cons}
use Rattle.cl_base.specs.declared.limits.TheConstants.{OPEN_BRACKETS, RUN_TOKENS, ITEM_ELSES}
use Rattle.cl_tree.specs.declared.grammar.Terminal.{Terminal}
use Rattle.cl_tree.specs.Items.{Bracket, effect, open_after, ends_here, is_close, joined, cut_from, cut}
use Rattle.cl_tree.specs.Limits.{is_else, elses, separates, open_behind, runs, latest, is_over, first_where, limit_passed}
use Rattle.cl_parse.specs.Walk.{passes, else_count, unseparated, limit_from}

-- ---- a count over the last part, where the first part has n before it

abbrev tally : (List Terminal → ℕ) → ℕ → List (List Terminal) → ℕ
tally f n [] = n
tally f n (x ∷ []) = n + f x
tally f n (x ∷ y ∷ ys) = tally f 0 (y ∷ ys)

-- a count by terminals
record Counts (f : List Terminal → ℕ) (g : Terminal → ℕ) : Type 0 where
  none : f [] ≡ 0
  more : (p : Terminal) (ps : List Terminal) → f (p ∷ ps) ≡ g p + f ps

tally_joined : (f : List Terminal → ℕ) (g : Terminal → ℕ) → Counts f g → (b : Bool) (p : Terminal) (n : ℕ) (y : List Terminal) (ys : List (List Terminal)) → tally f n (joined b p (y ∷ ys)) ≡ tally f (if b then 0 else n + g p) (y ∷ ys)
tally_joined f g c true p n y ys = refl
tally_joined f g c false p n y [] = let e = c.more p y in omega arith
tally_joined f g c false p n y (z ∷ zs) = refl

tally_alone : (f : List Terminal → ℕ) (g : Terminal → ℕ) → Counts f g → (b : Bool) (p : Terminal) (n : ℕ) → tally f n (joined b p []) ≡ n + g p
tally_alone f g c true p n = let e = c.more p [] in let z = c.none in omega arith
tally_alone f g c false p n = let e = c.more p [] in let z = c.none in omega arith

tally_latest : (f : List Terminal → ℕ) → f [] ≡ 0 → (xs : List (List Terminal)) → tally f 0 xs ≡ f (latest xs)
tally_latest f z [] = sym z
tally_latest f z (x ∷ []) = omega arith
tally_latest f z (x ∷ y ∷ ys) = tally_latest f z (y ∷ ys)

counts_elses : Counts elses (λ p. else_count p.what)
counts_elses = record { none = refl; more = λ p ps. sum_by-cons (λ q. cond (is_else q.what) 1 0) p ps }

counts_length : Counts length (λ p. 1)
counts_length = record { none = refl; more = λ p ps. omega arith }

-- ---- parts of terminals

record Begun (xs : List (List Terminal)) : Type 0 where
  first : List Terminal
  rest : List (List Terminal)
  is : xs ≡ first ∷ rest

joined_begun : (b : Bool) (p : Terminal) (xs : List (List Terminal)) → Begun (joined b p xs)
joined_begun true p xs = record { first = p ∷ []; rest = xs; is = refl }
joined_begun false p [] = record { first = p ∷ []; rest = []; is = refl }
joined_begun false p (x ∷ xs) = record { first = p ∷ x; rest = xs; is = refl }

cut_begun : (bs : List Bracket) (after : Bool) (p : Terminal) (ps : List Terminal) → Begun (cut_from bs after (p ∷ ps))
unfolding cut_from
cut_begun bs after p ps = joined_begun (ends_here bs (effect after p.what) ps) p _

run_begun : (b : Bool) (p : Terminal) (xs : List (List Terminal)) → Begun (if b then [] ∷ xs else joined false p xs)
run_begun true p xs = record { first = []; rest = xs; is = refl }
run_begun false p xs = joined_begun false p xs

runs_begun : (ps : List Terminal) → Begun (runs ps)
unfolding runs
runs_begun [] = record { first = []; rest = []; is = refl }
runs_begun (p ∷ ps) = run_begun (separates p.what) p (runs ps)

joined_step : (b : Bool) (p : Terminal) (n : ℕ) (xs : List (List Terminal)) → Begun xs → tally elses n (joined b p xs) ≡ tally elses (if b then 0 else n + else_count p.what) xs
joined_step b p n xs h = rw h.is (tally_joined elses (λ q. else_count q.what) counts_elses b p n h.first h.rest)

run_step : (b : Bool) (p : Terminal) (m : ℕ) (xs : List (List Terminal)) → Begun xs → tally length m (if b then [] ∷ xs else joined false p xs) ≡ tally length (if b then 0 else suc m) xs
run_step true p m xs h = rw h.is refl
run_step false p m xs h =
    let next : m + 1 ≡ suc m = omega arith in
    rw h.is (tally_joined length (λ q. 1) counts_length false p m h.first h.rest ∙ ap (λ (k : ℕ). tally length k (h.first ∷ h.rest)) next)

-- ---- the test behind some terminals

abbrev over_from : List Bracket → Bool → ℕ → ℕ → List Terminal → Bool
over_from bs after n m ps = passes (open_behind bs after ps) (tally elses n (cut_from bs after ps)) (tally length m (runs ps))

behind_next : (bs : List Bracket) (after : Bool) (p q : Terminal) (ps : List Terminal) → open_behind bs after (p ∷ q ∷ ps) ≡ open_behind (open_after bs (effect after p.what)) (is_close p.what) (q ∷ ps)
unfolding open_behind
behind_next bs after p q ps = refl

cut_next : (bs : List Bracket) (after : Bool) (p q : Terminal) (ps : List Terminal) → cut_from bs after (p ∷ q ∷ ps) ≡ joined (ends_here bs (effect after p.what) (q ∷ ps)) p (cut_from (open_after bs (effect after p.what)) (is_close p.what) (q ∷ ps))
unfolding cut_from
cut_next bs after p q ps = refl

runs_next : (p q : Terminal) (ps : List Terminal) → runs (p ∷ q ∷ ps) ≡ (if separates p.what then [] ∷ runs (q ∷ ps) else joined false p (runs (q ∷ ps)))
unfolding runs
runs_next p q ps = refl

elses_next : (bs : List Bracket) (after : Bool) (n : ℕ) (p q : Terminal) (ps : List Terminal)
    → tally elses n (cut_from bs after (p ∷ q ∷ ps)) ≡ tally elses (if ends_here bs (effect after p.what) (q ∷ ps) then 0 else n + else_count p.what) (cut_from (open_after bs (effect after p.what)) (is_close p.what) (q ∷ ps))
elses_next bs after n p q ps =
    ap (tally elses n) (cut_next bs after p q ps)
    ∙ joined_step (ends_here bs (effect after p.what) (q ∷ ps)) p n (cut_from (open_after bs (effect after p.what)) (is_close p.what) (q ∷ ps)) (cut_begun (open_after bs (effect after p.what)) (is_close p.what) q ps)

run_next : (m : ℕ) (p q : Terminal) (ps : List Terminal) → tally length m (runs (p ∷ q ∷ ps)) ≡ tally length (unseparated m p.what) (runs (q ∷ ps))
run_next m p q ps = ap (tally length m) (runs_next p q ps) ∙ run_step (separates p.what) p m (runs (q ∷ ps)) (runs_begun (q ∷ ps))

passes_same : (x y : List Bracket) (a b k l : ℕ) → x ≡ y → a ≡ b → k ≡ l → passes x a k ≡ passes y b l
passes_same x y a b k l e f g = rw (e, f, g) refl

over_next : (bs : List Bracket) (after : Bool) (n m : ℕ) (p q : Terminal) (ps : List Terminal)
    → over_from bs after n m (p ∷ q ∷ ps) ≡ over_from (open_after bs (effect after p.what)) (is_close p.what) (if ends_here bs (effect after p.what) (q ∷ ps) then 0 else n + else_count p.what) (unseparated m p.what) (q ∷ ps)
over_next bs after n m p q ps = passes_same _ _ _ _ _ _ (behind_next bs after p q ps) (elses_next bs after n p q ps) (run_next m p q ps)

over_one : (bs : List Bracket) (after : Bool) (n m : ℕ) (p : Terminal) → over_from bs after n m (p ∷ []) ≡ passes (open_after bs (effect after p.what)) (n + else_count p.what) (unseparated m p.what)
unfolding open_behind cut_from runs
over_one bs after n m p =
    let items = tally_alone elses (λ q. else_count q.what) counts_elses (ends_here bs (effect after p.what) []) p n in
    let rows = run_step (separates p.what) p m ([] ∷ []) (record { first = []; rest = []; is = refl }) in
    let length_is : tally length (unseparated m p.what) ([] ∷ []) ≡ unseparated m p.what = omega arith in
    rw (items, rows, length_is) refl

over_start : (ps : List Terminal) → over_from [] false 0 0 ps ≡ is_over ps
unfolding is_over cut
over_start ps = rw (tally_latest elses refl (cut_from [] false ps), tally_latest length refl (runs ps)) refl

-- ---- the walk

first_all : (P Q : List Terminal → Bool) → ((ps : List Terminal) → P ps ≡ Q ps) → (ps : List Terminal) → first_where P ps ≡ first_where Q ps
unfolding first_where
first_all P Q h [] = refl
first_all P Q h (p ∷ ps) = rw (h (p ∷ []), first_all (λ more. P (p ∷ more)) (λ more. Q (p ∷ more)) (λ more. h (p ∷ more)) ps) refl

first_from : (P Q : List Terminal → Bool) (q : Terminal) → ((ps : List Terminal) → P (q ∷ ps) ≡ Q (q ∷ ps)) → (qs : List Terminal) → first_where P (q ∷ qs) ≡ first_where Q (q ∷ qs)
unfolding first_where
first_from P Q q h qs = rw (h [], first_all (λ more. P (q ∷ more)) (λ more. Q (q ∷ more)) h qs) refl

walk_is : (bs : List Bracket) (after : Bool) (n m : ℕ) (ps : List Terminal) → first_where (over_from bs after n m) ps ≡ limit_from bs after n m ps
unfolding first_where limit_from
walk_is bs after n m [] = refl
walk_is bs after n m (p ∷ []) = rw (over_one bs after n m p) refl
walk_is bs after n m (p ∷ q ∷ qs) =
    let next : List Bracket = open_after bs (effect after p.what) in
    let e = first_from (λ more. over_from bs after n m (p ∷ more)) (over_from (open_after bs (effect after p.what)) (is_close p.what) (if ends_here bs (effect after p.what) (q ∷ qs) then 0 else n + else_count p.what) (unseparated m p.what)) q (λ ps. over_next bs after n m p q ps) qs in
    let w = walk_is (open_after bs (effect after p.what)) (is_close p.what) (if ends_here bs (effect after p.what) (q ∷ qs) then 0 else n + else_count p.what) (unseparated m p.what) (q ∷ qs) in
    rw (over_one bs after n m p, e ∙ w) refl

pub limit_is : (ps : List Terminal) → limit_from [] false 0 0 ps ≡ limit_passed ps
unfolding limit_passed
limit_is ps = sym (walk_is [] false 0 0 ps) ∙ first_all (over_from [] false 0 0) is_over over_start ps

-- ---- one terminal further

pub limit_next : (bs : List Bracket) (after : Bool) (elses run : ℕ) (p : Terminal) (ps : List Terminal)
    → passes (open_after bs (effect after p.what)) (elses + else_count p.what) (unseparated run p.what) ≡ false
    → limit_from bs after elses run (p ∷ ps) ≡ limit_from (open_after bs (effect after p.what)) (is_close p.what) (if ends_here bs (effect after p.what) ps then 0 else elses + else_count p.what) (unseparated run p.what) ps
unfolding limit_from
limit_next bs after elses run p ps h = rw h refl

pub limit_stop : (bs : List Bracket) (after : Bool) (elses run : ℕ) (p : Terminal) (ps : List Terminal)
    → passes (open_after bs (effect after p.what)) (elses + else_count p.what) (unseparated run p.what) ≡ true
    → limit_from bs after elses run (p ∷ ps) ≡ Some p.line
unfolding limit_from
limit_stop bs after elses run p ps h = rw h refl
