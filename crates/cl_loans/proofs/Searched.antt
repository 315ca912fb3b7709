-- Searching loans for the first with an alias: past those that have none, up to one that has.
use Rattle.std.proofs.Common.{◌≡◌, ◌⊎◌, inl, inr, ⊎_elim, ◌↔◌, ℕ, zero, suc, ◌+◌, ◌<◌, ◌≤◌, List, [], ◌∷◌, ◌++◌, map, length, slice_index_or, slice_get, Option, Some, All, refl, sym, ap, subst, ◌∙◌, arith, Result, Ok, Err}
use Rattle.std.specs.List.{Contains, flat_map}
use Rattle.std.proofs.lemmas.Option.{none-some, same_Some}
use Rattle.cl_mean.specs.declared.checked.Typed.{Typed}
use Rattle.cl_reach.specs.Reach.{Bears, Carries}
use Rattle.cl_scope.specs.declared.stop.Stop.{Stop}
use Rattle.cl_scope.specs.declared.stop.Stop.TheVariants.{At, NoMemory}
use Rattle.cl_calls.specs.Cycles.{Answers}
use Rattle.cl_groups.specs.Ties.{IsBelow}
use Rattle.cl_groups.proofs.Limits.{used_at}
use Rattle.cl_levels.specs.declared.uses.Body.{Body}
use Rattle.cl_levels.specs.declared.uses.Use.{Use}
use Rattle.cl_levels.specs.declared.uses.Use.TheVariants.{Named, Called}
use Rattle.cl_levels.specs.declared.uses.Variable.{Variable}
use Rattle.cl_levels.specs.declared.uses.Variable.TheVariants.{Static, Local}
use Rattle.cl_levels.specs.Crossings.{Loan, NamesLent, LentTwice, loan_in, loans_of, aliased}
use Rattle.std.specs.Result.{IsErrAnd}
use Rattle.cl_levels.specs.Placed.{Places, Holds}
use Rattle.cl_levels.specs.Uses.{uses_of, each_from}
use Rattle.cl_levels.proofs.Each.{each_same}
use Rattle.cl_loans.specs.Loans.{alone, loan_by, loans_in, NamesIt, NamesOne, HasAlias, Clashes, PlacesOf}
use Rattle.cl_loans.specs.Naming.{backs, names}
use Rattle.cl_loans.proofs.Behind.{NamesBehind, carried_names, names_carried}

-- ---- lists of loans

module _ (P : Loan → Type 0) where
  pub nothing : (loans : List Loan) → loans ≡ [] → Answers (Ok tt) (PlacesOf P loans)
  nothing loans e position line f = none-some f.0 (subst (λ ls. slice_get ls position ≡ Some f.0) e f.1.0)

  pub no_loan : (typed : Typed) (k line : ℕ) → Answers (Ok tt) (PlacesOf P (loan_by typed (Named k line)))
  no_loan typed k line position at f = none-some f.0 f.1.0

  -- one loan
  pub fine : (x : Loan) → (P x → ⊥) → Answers (Ok tt) (PlacesOf P (x ∷ []))
  fine x not zero line f = not (subst P (sym (same_Some x f.0 f.1.0)) f.1.1.1)
  fine x not (suc position) line f = none-some f.0 f.1.0

  pub here : (x : Loan) → P x → Answers (Err (At x.line)) (PlacesOf P (x ∷ []))
  here x p = (0, ((x, (refl, (refl, p))), λ other at f. omega arith))

  -- past a loan, and past several
  past_holds : (x : Loan) (ys : List Loan) → (P x → ⊥) → Holds (PlacesOf P ys) → Holds (PlacesOf P (x ∷ ys))
  past_holds x ys not a zero line f = not (subst P (sym (same_Some x f.0 f.1.0)) f.1.1.1)
  past_holds x ys not a (suc position) line f = a position line f

  past : (x : Loan) (ys : List Loan) (r : Result (Unit {0}) Stop) → (P x → ⊥) → Answers r (PlacesOf P ys) → Answers r (PlacesOf P (x ∷ ys))
  past x ys (Ok u) not a = past_holds x ys not a
  past x ys (Err NoMemory) not a = a
  past x ys (Err (At line)) not a = (suc a.0, (a.1.0, least))
    where
      least : (other at : ℕ) → PlacesOf P (x ∷ ys) other at → suc a.0 ≤ other
      least zero at f = absurd (not (subst P (sym (same_Some x f.0 f.1.0)) f.1.1.1))
      least (suc other) at f = let l : a.0 ≤ other = a.1.1 other at f in omega arith

  pub behind : (xs ys : List Loan) (r : Result (Unit {0}) Stop) → Answers (Ok tt) (PlacesOf P xs) → Answers r (PlacesOf P ys) → Answers r (PlacesOf P (xs ++ ys))
  behind [] ys r h a = a
  behind (x ∷ xs) ys r h a = past x (xs ++ ys) r (λ p. h 0 x.line (x, (refl, (refl, p)))) (behind xs ys r (λ position line f. h (suc position) line f) a)

  got_front : (xs ys : List Loan) (k : ℕ) (x : Loan) → slice_get xs k ≡ Some x → slice_get (xs ++ ys) k ≡ Some x
  got_front [] ys k x e = absurd (none-some x e)
  got_front (y ∷ xs) ys zero x e = e
  got_front (y ∷ xs) ys (suc k) x e = got_front xs ys k x e

  front_or_past : (xs ys : List Loan) (k : ℕ) (x : Loan) → slice_get (xs ++ ys) k ≡ Some x → (slice_get xs k ≡ Some x) ⊎ (length xs ≤ k)
  front_or_past [] ys k x e = inr (omega arith)
  front_or_past (y ∷ xs) ys zero x e = inl e
  front_or_past (y ∷ xs) ys (suc k) x e =
      ⊎_elim (λ (f : slice_get xs k ≡ Some x). inl f) (λ (l : length xs ≤ k). inr (omega (arith, l))) (front_or_past xs ys k x e)

  got_within : (xs : List Loan) (k : ℕ) (x : Loan) → slice_get xs k ≡ Some x → k < length xs
  got_within [] k x e = absurd (none-some x e)
  got_within (y ∷ xs) zero x e = omega arith
  got_within (y ∷ xs) (suc k) x e = let l = got_within xs k x e in omega (arith, l)

  -- what is found in front is found in all
  pub in_front : (xs ys : List Loan) (s : Stop) → Answers (Err s) (PlacesOf P xs) → Answers (Err s) (PlacesOf P (xs ++ ys))
  in_front xs ys NoMemory a = a
  in_front xs ys (At line) a = (a.0, ((a.1.0.0, (got_front xs ys a.0 a.1.0.0 a.1.0.1.0, a.1.0.1.1)), least))
    where
      least : (other at : ℕ) → PlacesOf P (xs ++ ys) other at → a.0 ≤ other
      least other at f =
          ⊎_elim (λ (e : slice_get xs other ≡ Some f.0). a.1.1 other at (f.0, (e, f.1.1)))
          (λ (l : length xs ≤ other). let w : a.0 < length xs = got_within xs a.0 a.1.0.0 a.1.0.1.0 in omega (arith, l, w)) (front_or_past xs ys other f.0 f.1.0)

  -- what is left to search, and the whole
  abbrev pub Left : List Loan → List Loan → Type 0
  Left rest whole = (r : Result (Unit {0}) Stop) → Answers r (PlacesOf P rest) → Answers r (PlacesOf P whole)

  pub goes_on : (part rest whole later : List Loan) → Answers (Ok tt) (PlacesOf P part) → rest ≡ part ++ later → Left rest whole → Left later whole
  goes_on part rest whole later h e left r a = left r (subst (λ ls. Answers r (PlacesOf P ls)) (sym e) (behind part later r h a))

  pub stops : (part rest whole later : List Loan) (s : Stop) → Answers (Err s) (PlacesOf P part) → rest ≡ part ++ later → Left rest whole → Answers (Err s) (PlacesOf P whole)
  stops part rest whole later s h e left = left (Err s) (subst (λ ls. Answers (Err s) (PlacesOf P ls)) (sym e) (in_front part later s h))

  pub ends : (rest whole : List Loan) → rest ≡ [] → Left rest whole → Answers (Ok tt) (PlacesOf P whole)
  ends rest whole e left = left (Ok tt) (nothing rest e)

-- an error handed on
pub handed : (places : Places) (r : Result (Unit {0}) Stop) (e : Stop) → IsErrAnd r (λ t. t ≡ e) → Answers (Err e) places → Answers r places
handed places (Ok u) e h a = absurd h
handed places (Err t) e h a = subst (λ s. Answers (Err s) places) (sym h) a

-- the same places under another name
pub same_places : (P Q : Loan → Type 0) → ((x : Loan) → P x → Q x) → ((x : Loan) → Q x → P x) → (xs : List Loan) (r : Result (Unit {0}) Stop)
    → Answers r (PlacesOf P xs) → Answers r (PlacesOf Q xs)
same_places P Q to back xs (Ok u) a = λ position line f. a position line (f.0, (f.1.0, (f.1.1.0, back f.0 f.1.1.1)))
same_places P Q to back xs (Err NoMemory) a = a
same_places P Q to back xs (Err (At line)) a =
    (a.0, ((a.1.0.0, (a.1.0.1.0, (a.1.0.1.1.0, to a.1.0.0 a.1.0.1.1.1))), λ other at f. a.1.1 other at (f.0, (f.1.0, (f.1.1.0, back f.0 f.1.1.1)))))

-- ---- the loans of a program

same_loan : (typed : Typed) (f : ℕ) (u : Use) → loan_by typed u ≡ loan_in (alone typed) f u
same_loan typed f (Named k line) = refl
same_loan typed f (Called g roots line) = refl

loans_are : (typed : Typed) (uses : List (List Use)) → uses ≡ uses_of typed → loans_in typed uses ≡ loans_of (alone typed)
unfolding loans_of
loans_are typed uses e = ap (loans_in typed) e ∙ each_same (λ f. loan_by typed) (loan_in (alone typed)) (same_loan typed) 0 (uses_of typed)

module _ (typed : Typed) (bodies : List Body) (carried : List (List ℕ)) (below : All (λ b. All IsBelow b.uses) bodies) (uses : map (λ b. b.uses) bodies ≡ uses_of typed)
    (bears : (k g : ℕ) → Bears carried k g ↔ Carries (names (map (λ b. b.uses) bodies)) (backs (map (λ b. b.uses) bodies)) k g) where
  carried_is : (k g : ℕ) → Bears carried k g ↔ Carries (names (uses_of typed)) (backs (uses_of typed)) k g
  carried_is = subst (λ uss. (k g : ℕ) → Bears carried k g ↔ Carries (names uss) (backs uss) k g) uses bears

  into : (loan : Loan) (v : Variable) → Contains loan.lent v → NamesIt carried loan.callee v → NamesLent (alone typed) loan
  into loan (Static k) c h = (k, (c, carried_names (alone typed) k loan.callee ((carried_is k loan.callee).0 h.1)))
  into loan (Local k) c h = absurd h

  small : (g k : ℕ) → NamesBehind (alone typed) k g → k < 4096
  small g k n = (used_at bodies n.0 (Named k n.1.1.0) below (subst (λ uss. Contains (slice_index_or uss n.0 []) (Named k n.1.1.0)) (sym uses) n.1.1.1)).0

  back : (loan : Loan) → NamesLent (alone typed) loan → NamesOne carried loan.callee loan.lent
  back loan n = (Static n.0, (n.1.0, (small loan.callee n.0 n.1.1, (carried_is n.0 loan.callee).1 (names_carried (alone typed) n.0 loan.callee n.1.1))))

  to_clash : (loan : Loan) → Clashes carried loan → LentTwice loan.lent ⊎ NamesLent (alone typed) loan
  to_clash loan (inl t) = inl t
  to_clash loan (inr n) = inr (into loan n.0 n.1.0 n.1.1)

  from_clash : (loan : Loan) → LentTwice loan.lent ⊎ NamesLent (alone typed) loan → Clashes carried loan
  from_clash loan (inl t) = inl t
  from_clash loan (inr n) = inr (back loan n)

  pub answer : (r : Result (Unit {0}) Stop) → Answers r (PlacesOf (Clashes carried) (loans_in typed (map (λ b. b.uses) bodies))) → Answers r (aliased (alone typed))
  answer r a =
      same_places (Clashes carried) (λ loan. LentTwice loan.lent ⊎ NamesLent (alone typed) loan) to_clash from_clash (loans_of (alone typed)) r
      (subst (λ ls. Answers r (PlacesOf (Clashes carried) ls)) (loans_are typed (map (λ b. b.uses) bodies) uses) a)
