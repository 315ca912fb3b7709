-- What one expression more adds to what is noted.
use Rattle.std.proofs.Common.{◌≡◌, ℕ, suc, ◌+◌, ◌<◌, List, [], ◌∷◌, ◌++◌, map, length, drop, get_or, Option, Result, Ok, Err, OnOk, refl, sym, ap, ◌∙◌, append_assoc, add-one, drop-cons}
use Rattle.cl_base.specs.declared.name.NoMemory.{NoMemory}
use Rattle.cl_tree.specs.declared.tree.Expr.{Expr}
use Rattle.cl_levels.specs.declared.uses.Variable.{Variable}
use Rattle.cl_levels.specs.Crossings.{Levelled, level_of}
use Rattle.cl_levels.specs.Uses.{Known}
use Rattle.cl_levels.proofs.Steps.{joined}
use Rattle.cle_ways.specs.declared.ways.Admitted.TheVariants.{OfLevel}
use Rattle.cle_ways.specs.declared.ways.Note.{Note}
use Rattle.cle_ways.specs.declared.ways.Origin.{Origin}
use Rattle.cle_ways.specs.Ways.{gist, used_expr, in_body, moved, array_at, argument, arguments, bound, printed}
use Rattle.cle_ways.proofs.Lines.{line_is}

pub on_ok : (r : Result (Unit {0}) NoMemory) (P Q : Type 0) → (P → Q) → OnOk r P → OnOk r Q
on_ok (Ok x) P Q f h = f h
on_ok (Err e) P Q f h = tt

pub on_any : (r : Result (Unit {0}) NoMemory) (P : Type 0) → P → OnOk r P
on_any (Ok x) P h = h
on_any (Err e) P h = tt

-- what was read into an empty list
pub read_is : (start origins slice whole : List Origin) → start ≡ [] → origins ≡ start ++ whole → slice ≡ origins → slice ≡ whole
read_is start origins slice whole e f g = g ∙ f ∙ ap (λ xs. xs ++ whole) e

module _ (l : Levelled) (f : ℕ) (ks : List Known) where
  pub used_is : (e : Expr) (old mid new : List Note) (slice : List Origin) → mid ≡ old ++ (gist l f ks e).notes → slice ≡ (gist l f ks e).origins
      → new ≡ mid ++ in_body l f e.line slice → new ≡ old ++ used_expr l f ks e
  used_is e old mid new slice h i j =
      j ∙ ap (λ xs. xs ++ in_body l f e.line slice) h
      ∙ ap (λ os. (old ++ (gist l f ks e).notes) ++ in_body l f e.line os) i
      ∙ ap (λ n. (old ++ (gist l f ks e).notes) ++ in_body l f n (gist l f ks e).origins) (sym (line_is l f ks e))
      ∙ append_assoc old (gist l f ks e).notes (in_body l f (gist l f ks e).line (gist l f ks e).origins)

  pub argument_is : (callee line k : ℕ) (e : Expr) (old mid new : List Note) (slice : List Origin) (root : Option Variable)
      → mid ≡ old ++ used_expr l f ks e → slice ≡ (gist l f ks e).origins → root ≡ (gist l f ks e).root
      → new ≡ mid ++ moved l f callee line k (array_at l callee k) slice root → new ≡ old ++ argument l f callee line k (gist l f ks e)
  argument_is callee line k e old mid new slice root h i r j =
      j ∙ ap (λ xs. xs ++ moved l f callee line k (array_at l callee k) slice root) h
      ∙ ap (λ os. (old ++ used_expr l f ks e) ++ moved l f callee line k (array_at l callee k) os root) i
      ∙ ap (λ v. (old ++ used_expr l f ks e) ++ moved l f callee line k (array_at l callee k) (gist l f ks e).origins v) r
      ∙ append_assoc old (used_expr l f ks e) (moved l f callee line k (array_at l callee k) (gist l f ks e).origins (gist l f ks e).root)

  pub printed_is : (line : ℕ) (e : Expr) (old mid new : List Note) (slice : List Origin) (level : ℕ) → mid ≡ old ++ used_expr l f ks e
      → slice ≡ (gist l f ks e).origins → level ≡ level_of l f → new ≡ mid ++ bound 34 slice (OfLevel level) line → new ≡ old ++ printed l f line (gist l f ks e)
  printed_is line e old mid new slice level h i n j =
      j ∙ ap (λ xs. xs ++ bound 34 slice (OfLevel level) line) h
      ∙ ap (λ os. (old ++ used_expr l f ks e) ++ bound 34 os (OfLevel level) line) i
      ∙ ap (λ k. (old ++ used_expr l f ks e) ++ bound 34 (gist l f ks e).origins (OfLevel k) line) n
      ∙ append_assoc old (used_expr l f ks e) (bound 34 (gist l f ks e).origins (OfLevel (level_of l f)) line)

  next_argument : (callee line k : ℕ) (all : List Expr) (e : Expr) → k < length all → e ≡ get_or all k e
      → arguments l f callee line k (map (gist l f ks) (drop k all)) ≡ argument l f callee line k (gist l f ks e) ++ arguments l f callee line (k + 1) (map (gist l f ks) (drop (k + 1) all))
  next_argument callee line k all e within is =
      rw (add-one k) (ap (λ es. arguments l f callee line k (map (gist l f ks) es)) (drop-cons all k e within ∙ ap (λ y. y ∷ drop (suc k) all) (sym is)))

  pub arguments_step : (callee line k : ℕ) (all : List Expr) (e : Expr) (old new whole : List Note) → k < length all → e ≡ get_or all k e
      → new ≡ old ++ argument l f callee line k (gist l f ks e) → old ++ arguments l f callee line k (map (gist l f ks) (drop k all)) ≡ whole
      → new ++ arguments l f callee line (k + 1) (map (gist l f ks) (drop (k + 1) all)) ≡ whole
  arguments_step callee line k all e old new whole within is h rest =
      joined old new (argument l f callee line k (gist l f ks e)) (arguments l f callee line k (map (gist l f ks) (drop k all))) whole
      (arguments l f callee line (k + 1) (map (gist l f ks) (drop (k + 1) all))) h (next_argument callee line k all e within is) rest
