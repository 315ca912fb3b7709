-- The integers that a field names, by the definitions of payloads and of places under a path.
use Rattle.std.proofs.Common.{◌≡◌, ℕ, suc, arith, ℤ, List, [], ◌∷◌, ◌++◌, length, map, refl, sym, ap, ◌∙◌, Bool, true, false, not, ◌&&◌, ◌||◌, if◌then◌else◌, append_assoc, length-append, slice_index_or, Some, None, codes}
use Rattle.std.specs.List.{list_all, list_any}
use Rattle.cl_tree.specs.declared.kinds.IntKind.{IntKind}
use Rattle.cl_tree.specs.declared.kinds.IntKind.TheVariants.{I32}
use Rattle.cl_tree.specs.declared.tree.CType.{CType}
use Rattle.cl_tree.specs.declared.tree.Declarator.{Declarator}
use Rattle.cl_tree.specs.Arithmetic.{fits}
use Rattle.cl_tree.specs.Words.{Word}
use Rattle.cl_mean.specs.declared.labels.RedactField.{RedactField}
use Rattle.cl_mean.specs.Shape.{Shape, nothing, integer, struct, array, Structs, shape_of, kinds_of, members_of}
use Rattle.cl_mean.specs.Source.{parameters_of, request_members, array_members}
use Rattle.cl_labelling.specs.Fits.{any_there, field_fits, payload}
use Rattle.rpc_codec.specs.declared.leaves.Leaf.{Leaf}
use Rattle.rpc_codec.specs.Leaves.{behind, chosen_from, leads_to, leaves, member_leaves}
use Rattle.rpc_codec.specs.Signature.{array_leaves, if_array, signature_leaves}
use Rattle.rpc_codec.proofs.Under.{kinds_are, places_are}
use Rattle.cle_fits.specs.Leaves.{leaf_fits, nameless}

any_is : (ls : List Leaf) (at : ℕ) → list_any (λ l. l.chosen) ls ≡ any_there (chosen_from at ls)
any_is [] at = refl
any_is (l ∷ ls) at = by l.chosen (any_is ls (suc at))
  where
    by : (c : Bool) → list_any (λ l. l.chosen) ls ≡ any_there (chosen_from (suc at) ls)
        → (c || list_any (λ l. l.chosen) ls) ≡ any_there (if c then at ∷ chosen_from (suc at) ls else chosen_from (suc at) ls)
    by true rest = refl
    by false rest = rest

index_behind : (pre : List IntKind) (k : IntKind) (ks : List IntKind) → slice_index_or (pre ++ k ∷ ks) (length pre) I32 ≡ k
index_behind [] k ks = refl
index_behind (p ∷ pre) k ks = index_behind pre k ks

module _ (n : ℤ) (kinds : List IntKind) where
  abbrev fits_at : ℕ → Bool
  fits_at at = fits (slice_index_or kinds at I32) n

  fit_from : (pre : List IntKind) (ls : List Leaf) (at : ℕ) → at ≡ length pre → kinds ≡ pre ++ map (λ l. l.kind) ls → list_all (leaf_fits n) ls ≡ list_all fits_at (chosen_from at ls)
  fit_from pre [] at here is = refl
  fit_from pre (l ∷ ls) at here is =
      let kind : slice_index_or kinds at I32 ≡ l.kind = rw (is, here) (index_behind pre l.kind (map (λ l. l.kind) ls)) in
      let next : suc at ≡ length (pre ++ l.kind ∷ []) = omega (arith, here, length-append pre (l.kind ∷ [])) in
      by l.chosen (ap (λ (k : IntKind). fits k n) (sym kind)) (fit_from (pre ++ l.kind ∷ []) ls (suc at) next (is ∙ sym (append_assoc pre (l.kind ∷ []) (map (λ l. l.kind) ls))))
    where
      by : (c : Bool) → fits l.kind n ≡ fits_at at → list_all (leaf_fits n) ls ≡ list_all fits_at (chosen_from (suc at) ls)
          → ((not c || fits l.kind n) && list_all (leaf_fits n) ls) ≡ list_all fits_at (if c then at ∷ chosen_from (suc at) ls else chosen_from (suc at) ls)
      by true here rest = ap (λ (b : Bool). b && list_all (leaf_fits n) ls) here ∙ ap (λ (b : Bool). fits_at at && b) rest
      by false here rest = rest

-- ---- payloads of a signature

request_is : (structs : Structs) (k : ℕ) (ds : List Declarator) (path : List Word) → member_leaves (request_members (parameters_of structs None k ds)) true path ≡ member_leaves (members_of structs ds) true path
request_is structs k [] path = refl
request_is structs k (d ∷ ds) path = ap (λ (xs : List Leaf). leaves (shape_of structs d.ctype) (leads_to true path d.name) (behind path) ++ xs) (request_is structs (suc k) ds path)

arrays_are : (structs : Structs) (k : ℕ) (ds : List Declarator) (path : List Word) → member_leaves (array_members (parameters_of structs None k ds)) true path ≡ array_leaves structs ds path
arrays_are structs k [] path = refl
arrays_are structs k (d ∷ ds) path = by (shape_of structs d.ctype) refl (arrays_are structs (suc k) ds path)
  where
    by : (s : Shape) → shape_of structs d.ctype ≡ s → member_leaves (array_members (parameters_of structs None (suc k) ds)) true path ≡ array_leaves structs ds path → member_leaves (array_members (parameters_of structs None k (d ∷ ds))) true path ≡ if_array (shape_of structs d.ctype) (leads_to true path d.name) (behind path) ++ array_leaves structs ds path
    by nothing e rest = rw e rest
    by (integer kind) e rest = rw e rest
    by (struct ms) e rest = rw e rest
    by (array element size) e rest = rw e (ap (λ (xs : List Leaf). leaves (array element size) (leads_to true path d.name) (behind path) ++ xs) rest)

module _ (structs : Structs) (result : CType) (params : List Declarator) where
  leaves_are : (reply : Bool) (path : List Word) → signature_leaves structs reply (Some (record { result = result; params = params })) path ≡ leaves (payload structs (nameless result params) reply) true path
  leaves_are false path = sym (request_is structs 0 params path)
  leaves_are true path = ap (λ (xs : List Leaf). leaves (shape_of structs result) (leads_to true path (codes "return")) (behind path) ++ xs) (sym (arrays_are structs 0 params path))

  pub field_is : (f : RedactField) (ls : List Leaf) → ls ≡ signature_leaves structs f.reply (Some (record { result = result; params = params })) f.path
      → (list_any (λ l. l.chosen) ls && list_all (leaf_fits f.with) ls) ≡ field_fits structs (nameless result params) f
  unfolding field_fits
  field_is f ls e =
      rw (
        e ∙ leaves_are f.reply f.path,
        any_is (leaves (payload structs (nameless result params) f.reply) true f.path) 0,
        fit_from f.with (kinds_of (payload structs (nameless result params) f.reply)) [] (leaves (payload structs (nameless result params) f.reply) true f.path) 0 refl (sym (kinds_are (payload structs (nameless result params) f.reply) true f.path)),
        places_are (payload structs (nameless result params) f.reply) f.path 0,
      ) refl
