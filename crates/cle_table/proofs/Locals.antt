-- The locals of one function more.
use Rattle.std.proofs.Common.{◌≡◌, ◌<◌, ◌+◌, ◌++◌, ◌∷◌, [], ℕ, List, length, map, take, get_or, refl, sym, ap, ◌∙◌, subst, add-one, arith}
use Rattle.std.proofs.lemmas.List.{length-take-le, length-map, get_or_append_left}
use Rattle.std.proofs.Math.Seq.{take-suc, get_or-append_seam}
use Rattle.cl_mean.specs.declared.checked.Carried.{Carried}
use Rattle.cl_mean.specs.declared.checked.CarriedLocals.{CarriedLocals}
use Rattle.cle_ways.specs.declared.ways.Body.{Body}
use Rattle.cle_ways.specs.declared.ways.Holder.TheVariants.{Local}
use Rattle.cle_ways.specs.Flow.{no_locals, locals_at}
use Rattle.cle_table.specs.declared.table.Table.{Table}
use Rattle.cle_table.specs.Exact.{CarriedBy, LocalsBy}
use Rattle.cle_table.proofs.Listing.{each_pushed, length_pushed}

abbrev counts : List Body → List ℕ
counts fs = map (λ b. b.locals) fs

counts_push : (fs : List Body) (b : Body) → counts (fs ++ b ∷ []) ≡ counts fs ++ b.locals ∷ []
counts_push [] b = refl
counts_push (f ∷ fs) b = ap (λ ns. f.locals ∷ ns) (counts_push fs b)

module _ (t : Table) (fs : List Body) (b : Body) (all : List CarriedLocals) (locals : List Carried) (h : LocalsBy t fs all) (new : CarriedBy t (Local (length fs)) b.locals locals) where
  count_before : (k : ℕ) → k < length fs → get_or (counts (fs ++ b ∷ [])) k 0 ≡ get_or (counts fs) k 0
  count_before k q = ap (λ ns. get_or ns k 0) (counts_push fs b) ∙ get_or_append_left (counts fs) (b.locals ∷ []) 0 k (subst (λ n. k < n) (sym (length-map fs (λ c. c.locals))) q)

  count_last : get_or (counts (fs ++ b ∷ [])) (length fs) 0 ≡ b.locals
  count_last = ap (λ ns. get_or ns (length fs) 0) (counts_push fs b) ∙ (ap (λ n. get_or (counts fs ++ b.locals ∷ []) n 0) (sym (length-map fs (λ c. c.locals))) ∙ get_or-append_seam (counts fs) b.locals [] 0)

  abbrev row : CarriedLocals
  row = record { locals = locals }

  pub locals_pushed : LocalsBy t (fs ++ b ∷ []) (all ++ row ∷ [])
  locals_pushed = record {
    same_length = length_pushed all row (length fs) h.same_length ∙ sym (length_pushed fs b (length fs) refl);
    each = λ k q. each_pushed (λ k (x : CarriedLocals). CarriedBy t (Local k) (get_or (counts (fs ++ b ∷ [])) k 0) x.locals) all row no_locals (length fs) h.same_length
        (λ k q. subst (λ n. CarriedBy t (Local k) n (locals_at all k)) (sym (count_before k q)) (h.each k q))
        (subst (λ n. CarriedBy t (Local (length fs)) n locals) (sym count_last) new)
        k (subst (λ n. k < n) (length_pushed fs b (length fs) refl) q);
  }

pub locals_more : (t : Table) (fs : List Body) (f : ℕ) (b : Body) (all : List CarriedLocals) (locals : List Carried) → f < length fs → b ≡ get_or fs f b
    → LocalsBy t (take f fs) all → CarriedBy t (Local f) b.locals locals → LocalsBy t (take (f + 1) fs) (all ++ record { locals = locals } ∷ [])
locals_more t fs f b all locals h e l c =
    let taken : take (f + 1) fs ≡ take f fs ++ b ∷ [] = ap (λ n. take n fs) (add-one f) ∙ (take-suc fs f b h ∙ ap (λ y. take f fs ++ y ∷ []) (sym e)) in
    let long : length (take f fs) ≡ f = length_taken in
    subst (λ (gs : List Body). LocalsBy t gs (all ++ record { locals = locals } ∷ [])) (sym taken)
    (locals_pushed t (take f fs) b all locals l (subst (λ n. CarriedBy t (Local n) b.locals locals) (sym long) c))
  where
    length_taken : length (take f fs) ≡ f
    length_taken = length-take-le f fs (omega (arith, h))
