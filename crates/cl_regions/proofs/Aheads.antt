-- What lies ahead of the parts of a file or of a block.
use Rattle.std.proofs.Common.{◌≡◌, ℕ, zero, suc, ◌<◌, ◌≤◌, ◌+◌, ◌-◌, List, [], ◌∷◌, ◌++◌, map, length, reverse, take, drop, get_or, drop-cons, refl, sym, ap, ◌∙◌, subst, arith, Bool, true, false, nat_lt, if◌then◌else◌, Option, Some, None, bytes_eq, length-append, length-drop}
use Rattle.std.proofs.lemmas.List.{reverse-append, reverse-reverse, append-nil, length-map}
use Rattle.std.proofs.lemmas.Bool.Decides.{nat_tests}
use Rattle.std.specs.Option.{MatchOption, option_to_list}
use Rattle.cl_tree.specs.declared.token.Pragma.TheVariants as pragma
use Rattle.cl_tree.specs.Words.{Word}
use Rattle.cl_labelling.specs.Names.{has_word}
use Rattle.cl_labelling.specs.Regions.{Role, says, is_item, passed_over, bars, Part, ended_by, is_ended, next_by, has_next, without}
use Rattle.cl_regions.specs.Bag.{occurs, Holds}
use Rattle.cl_regions.specs.Ahead.{ends_before, ends_ahead, is_regular_ahead, all_ahead}
use Rattle.cl_regions.specs.Walks.{IsAhead}
use Rattle.cl_regions.specs.declared.ahead.Ahead.{Ahead}
use Rattle.cl_regions.proofs.Bags.{less, has_occurs, without_occurs}

-- ---- a region is ended where an end without a `begin` lies ahead

begin_case : (b : Bool) (n o : ℕ) → nat_lt (if b then suc n else n) o ≡ nat_lt n (if b then less o else o)
begin_case true n zero = grind (arith, nat_tests)
begin_case true n (suc o) = grind (arith, nat_tests)
begin_case false n o = refl

end_here : (b : Bool) (o : ℕ) (r : Bool) → r ≡ nat_lt 0 o → (if b then true else r) ≡ nat_lt 0 (if b then suc o else o)
end_here true o r e = grind (arith, nat_tests)
end_here false o r e = e

end_later : (b : Bool) (n o : ℕ) (r s : Bool) → r ≡ nat_lt n o → s ≡ nat_lt (suc n) o
    → (if b then r else s) ≡ nat_lt (suc n) (if b then suc o else o)
end_later true n o r s e f = let g : nat_lt n o ≡ nat_lt (suc n) (suc o) = grind (arith, nat_tests) in e ∙ g
end_later false n o r s e f = f

ended_role : (role : Role) (name : Word) (n : ℕ) (ps : List Part)
    → ((k : ℕ) → is_ended name k ps ≡ nat_lt k (occurs (ends_ahead ps) name))
    → ended_by name n role (λ k. is_ended name k ps) ≡ nat_lt n (occurs (ends_before (ends_ahead ps) role) name)
unfolding occurs
ended_role (says (pragma.Begin other)) name n ps f =
    f (if bytes_eq other name then suc n else n) ∙ begin_case (bytes_eq other name) n (occurs (ends_ahead ps) name)
    ∙ ap (nat_lt n) (sym (without_occurs (ends_ahead ps) other name))
ended_role (says (pragma.End other)) name zero ps f =
    end_here (bytes_eq other name) (occurs (ends_ahead ps) name) (is_ended name 0 ps) (f 0)
ended_role (says (pragma.End other)) name (suc n) ps f =
    end_later (bytes_eq other name) n (occurs (ends_ahead ps) name) (is_ended name n ps) (is_ended name (suc n) ps)
    (f n) (f (suc n))
ended_role (says (pragma.Def other text)) name n ps f = f n
ended_role (says (pragma.Next other)) name n ps f = f n
ended_role (is_item subject) name n ps f = f n
ended_role passed_over name n ps f = f n
ended_role bars name n ps f = f n

none_ahead : (name : Word) (k : ℕ) → false ≡ nat_lt k (occurs [] name)
unfolding occurs
none_ahead name k = grind (arith, nat_tests)

ended_is : (name : Word) (n : ℕ) (ps : List Part) → is_ended name n ps ≡ nat_lt n (occurs (ends_ahead ps) name)
unfolding is_ended ends_ahead
ended_is name n [] = none_ahead name n
ended_is name n (p ∷ ps) = ended_role p.role name n ps (λ k. ended_is name k ps)

pub ended : (name : Word) (ps : List Part) → has_word (ends_ahead ps) name ≡ is_ended name 0 ps
ended name ps = sym (ended_is name 0 ps ∙ has_occurs (ends_ahead ps) name)

-- ---- one part more

without_case : (b : Bool) (w : Word) (ws vs : List Word) → length vs ≤ length ws
    → length (if b then ws else w ∷ vs) ≤ suc (length ws)
without_case true w ws vs h = omega arith
without_case false w ws vs h = omega arith

pub without_few : (ws : List Word) (name : Word) → length (without ws name) ≤ length ws
unfolding without
without_few [] name = omega arith
without_few (w ∷ ws) name = without_case (bytes_eq w name) w ws (without ws name) (without_few ws name)

before_few : (role : Role) (ends : List Word) (n : ℕ) → length ends ≤ n → length (ends_before ends role) ≤ suc n
before_few (says (pragma.Begin name)) ends n h =
    let k : length (without ends name) ≤ length ends = without_few ends name in omega arith
before_few (says (pragma.End name)) ends n h = omega arith
before_few (says (pragma.Def name text)) ends n h = omega arith
before_few (says (pragma.Next name)) ends n h = omega arith
before_few (is_item subject) ends n h = omega arith
before_few passed_over ends n h = omega arith
before_few bars ends n h = omega arith

pub ends_few : (ps : List Part) → length (ends_ahead ps) ≤ length ps
unfolding ends_ahead
ends_few [] = omega arith
ends_few (p ∷ ps) = before_few p.role (ends_ahead ps) (length ps) (ends_few ps)

pub none_noted : (ahead : Ahead) → Holds ahead.ends [] → ahead.has_next ≡ false → ahead.regular.items ≡ []
    → IsAhead ahead []
unfolding ends_ahead all_ahead has_next
none_noted ahead h e f = record { ends = h; next = e; regular = f }

pub noted : (old new : Ahead) (p : Part) (ps : List Part) (role : Role) (regular : Bool) → IsAhead old ps → p.role ≡ role
    → regular ≡ is_regular_ahead ps role → Holds new.ends (ends_before (ends_ahead ps) role)
    → new.has_next ≡ next_by role old.has_next → new.regular.items ≡ old.regular.items ++ regular ∷ []
    → IsAhead new (p ∷ ps)
unfolding ends_ahead all_ahead has_next
noted old new p ps role regular h e r b n i = record {
  ends = subst (λ (x : Role). Holds new.ends (ends_before (ends_ahead ps) x)) (sym e) b;
  next = n ∙ ap (next_by role) h.next ∙ ap (λ (x : Role). next_by x (has_next ps)) (sym e);
  regular = i ∙ ap (λ (xs : List Bool). xs ++ regular ∷ []) h.regular
      ∙ ap (λ (x : Bool). reverse (all_ahead ps) ++ x ∷ []) (r ∙ ap (is_regular_ahead ps) (sym e))
      ∙ sym (reverse-append (is_regular_ahead ps p.role ∷ []) (all_ahead ps));
}

-- ---- from the end of a list

module _ {X : Type 0} where
  pub back_step : (xs : List X) (x : X) (i : ℕ) → i < length xs → x ≡ get_or xs (length xs - 1 - i) x
      → drop (length xs - (i + 1)) xs ≡ x ∷ drop (length xs - i) xs
  back_step xs x i h e =
      let k : length xs - (i + 1) ≡ length xs - 1 - i = omega arith in
      let m : suc (length xs - 1 - i) ≡ length xs - i = omega arith in
      let l : length xs - 1 - i < length xs = omega arith in
      ap (λ (n : ℕ). drop n xs) k ∙ drop-cons xs (length xs - 1 - i) x l
      ∙ ap (λ (y : X). y ∷ drop (suc (length xs - 1 - i)) xs) (sym e) ∙ ap (λ (n : ℕ). x ∷ drop n xs) m

  pub drop_past : (xs : List X) (i : ℕ) → length xs ≤ i → drop i xs ≡ []
  drop_past [] zero h = refl
  drop_past [] (suc i) h = refl
  drop_past (x ∷ xs) zero h = absurd (omega arith)
  drop_past (x ∷ xs) (suc i) h = drop_past xs i (omega arith)

  pub drop_start : (xs : List X) → drop (length xs - 0) xs ≡ []
  drop_start xs = drop_past xs (length xs - 0) (omega arith)

  pub drop_end : (xs : List X) (i : ℕ) → length xs ≤ i → drop (length xs - i) xs ≡ xs
  drop_end xs i h = let e : length xs - i ≡ 0 = omega arith in rw e refl

  pub back_length : (f : X → Part) (xs : List X) (i : ℕ) → i ≤ length xs
      → length (map f (drop (length xs - i) xs)) ≡ i
  back_length f xs i h =
      length-map (drop (length xs - i) xs) f ∙ length-drop (length xs - i) xs ∙ omega arith

  last_same : (xs ys : List X) (x y : X) → xs ++ x ∷ [] ≡ ys ++ y ∷ [] → (x ≡ y) × (xs ≡ ys)
  last_same xs ys x y e =
      let r : x ∷ reverse xs ≡ y ∷ reverse ys = sym (reverse-append xs (x ∷ [])) ∙ ap reverse e ∙ reverse-append ys (y ∷ [])
      in
      let t : reverse xs ≡ reverse ys = cc in
      ((cc), sym (reverse-reverse xs) ∙ ap reverse t ∙ reverse-reverse ys)

  pub popped : (r : Option X) (old new xs : List X) (x : X) (n m : ℕ) → old ≡ new ++ option_to_list r
      → new ≡ take (n - 1) old → MatchOption r ((n ≡ 0) × (m ≡ 0)) (λ _. m + 1 ≡ n) → old ≡ xs ++ x ∷ []
      → (r ≡ Some x) × (new ≡ xs)
  popped None old new xs x n m e t c h =
      let k : new ≡ [] = t ∙ ap (λ (i : ℕ). take (i - 1) old) c.0 in
      let f : xs ++ x ∷ [] ≡ [] = sym h ∙ e ∙ append-nil new ∙ k in
      absurd (omega (arith, length-append {A = X}, ap length f))
  popped (Some y) old new xs x n m e t c h =
      let s : (y ≡ x) × (new ≡ xs) = last_same new xs y x (sym e ∙ h) in (ap Some s.0, s.1)
