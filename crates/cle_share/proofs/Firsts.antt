-- The first signature of a name, in lists one behind the other.
use Rattle.std.proofs.Common.{◌≡◌, ℕ, suc, ◌+◌, ◌<◌, ◌≤◌, add-one, List, [], ◌∷◌, ◌++◌, drop, length, slice_index_or, Bool, true, false, Option, Some, None, option_map, bytes_eq, if◌then◌else◌, refl, sym, ap, ◌∙◌}
use Rattle.std.specs.List.{flat_map}
use Rattle.std.proofs.Math.Seq.{drop-cons}
use Rattle.std.proofs.lemmas.List.{drop_all}
use Rattle.cl_tree.specs.declared.tree.Item.{Item}
use Rattle.cl_tree.specs.Words.{Word}
use Rattle.cl_labelling.specs.Fits.{Signature, signature_among}
use Rattle.cle_share.specs.Signatures.{Parts, parts_of, known, or_first}

pub or_first_assoc : (a b c : Option Parts) → or_first (or_first a b) c ≡ or_first a (or_first b c)
or_first_assoc None b c = refl
or_first_assoc (Some p) b c = refl

pub known_append : (xs ys : List Signature) (q : Word) → known (xs ++ ys) q ≡ or_first (known xs q) (known ys q)
unfolding known signature_among
known_append [] ys q = refl
known_append (x ∷ xs) ys q = by (bytes_eq x.name q) (known_append xs ys q)
  where
    by : (b : Bool) → option_map parts_of (signature_among (xs ++ ys) q) ≡ or_first (option_map parts_of (signature_among xs q)) (option_map parts_of (signature_among ys q))
        → option_map parts_of (if b then Some x else signature_among (xs ++ ys) q) ≡ or_first (option_map parts_of (if b then Some x else signature_among xs q)) (option_map parts_of (signature_among ys q))
    by true rest = refl
    by false rest = rest

or_none : (a : Option Parts) → or_first a None ≡ a
or_none None = refl
or_none (Some p) = refl

module _ (f : Item → List Signature) where
  -- an item whose signatures were noted
  pub one_more : (items : List Item) (i : ℕ) (item : Item) (q : Word) (old new : Option Parts) → i < length items → item ≡ slice_index_or items i item
      → new ≡ or_first old (known (f item) q)
      → or_first new (known (flat_map f (drop (i + 1) items)) q) ≡ or_first old (known (flat_map f (drop i items)) q)
  one_more items i item q old new within is e =
      let here : drop i items ≡ item ∷ drop (suc i) items = drop-cons items i item within ∙ ap (λ (x : Item). x ∷ drop (suc i) items) (sym is) in
      rw (add-one, here, e)
      (or_first_assoc old (known (f item) q) (known (flat_map f (drop (suc i) items)) q)
      ∙ ap (or_first old) (sym (known_append (f item) (flat_map f (drop (suc i) items)) q)))

  -- no item is left
  pub no_more : (items : List Item) (i : ℕ) (q : Word) (held : Option Parts) → length items ≤ i → held ≡ or_first held (known (flat_map f (drop i items)) q)
  unfolding known signature_among
  no_more items i q held past = rw (drop_all i items past) (sym (or_none held))
