-- The integers that a path chooses, by the definitions of places under a path.
use Rattle.std.proofs.Common.{◌≡◌, ℕ, suc, ◌+◌, ◌<◌, arith, ℤ, List, [], ◌∷◌, ◌++◌, length, map, drop, get_or, refl, sym, ap, subst, ◌∙◌, Bool, true, false, ◌&&◌, if◌then◌else◌, append_assoc, length-append, slice_index_or, Option, Some, None}
use Rattle.std.specs.List.{list_all}
use Rattle.std.proofs.lemmas.List.{drop_more}
use Rattle.cl_tree.specs.declared.kinds.IntKind.{IntKind}
use Rattle.cl_tree.specs.declared.kinds.IntKind.TheVariants.{I32}
use Rattle.cl_tree.specs.Arithmetic.{fits}
use Rattle.cl_tree.specs.Words.{Word}
use Rattle.cl_mean.specs.declared.law.Patch.{Patch}
use Rattle.cl_mean.specs.Judging.{patch_with}
use Rattle.cl_mean.specs.Shape.{Shape, kinds_of, under}
use Rattle.rpc_codec.specs.declared.leaves.Leaf.{Leaf}
use Rattle.rpc_codec.specs.Leaves.{chosen_from, leaves}
use Rattle.rpc_codec.proofs.Under.{kinds_are, places_are}
use Rattle.guard_rules.specs.declared.draft.Field.{Field}
use Rattle.guard_places.specs.declared.places.Place.{Place}
use Rattle.guard_rules.specs.Answer.{FieldAnswer, PlacesAnswer}
use Rattle.guard_places.specs.Places.{chosen_places}
use Rattle.guard_rules.specs.Places.{place_at, places_of}
use Rattle.guard_rules.specs.Policy.{any_there, field_fits}

-- ---- the integers that are chosen are those under the path

index_behind : (pre : List IntKind) (k : IntKind) (ks : List IntKind) → slice_index_or (pre ++ k ∷ ks) (length pre) I32 ≡ k
index_behind [] k ks = refl
index_behind (p ∷ pre) k ks = index_behind pre k ks

abbrev pub place : ℕ → IntKind → Place
place at kind = record { at = at; kind = kind }

module _ (kinds : List IntKind) where
  places_from : (pre : List IntKind) (ls : List Leaf) (at : ℕ) → at ≡ length pre → kinds ≡ pre ++ map (λ l. l.kind) ls
      → chosen_places at ls ≡ map (place_at kinds) (chosen_from at ls)
  places_from pre [] at here is = refl
  places_from pre (l ∷ ls) at here is =
      let kind : slice_index_or kinds at I32 ≡ l.kind = rw (is, here) (index_behind pre l.kind (map (λ l. l.kind) ls)) in
      let next : suc at ≡ length (pre ++ l.kind ∷ []) = omega (arith, here, length-append pre (l.kind ∷ [])) in
      by l.chosen (ap (place at) (sym kind)) (places_from (pre ++ l.kind ∷ []) ls (suc at) next (is ∙ sym (append_assoc pre (l.kind ∷ []) (map (λ l. l.kind) ls))))
    where
      by : (c : Bool) → place at l.kind ≡ place_at kinds at → chosen_places (suc at) ls ≡ map (place_at kinds) (chosen_from (suc at) ls)
          → (if c then place at l.kind ∷ chosen_places (suc at) ls else chosen_places (suc at) ls) ≡ map (place_at kinds) (if c then at ∷ chosen_from (suc at) ls else chosen_from (suc at) ls)
      by true here rest = ap (λ (p : Place). p ∷ chosen_places (suc at) ls) here ∙ ap (λ (ps : List Place). place_at kinds at ∷ ps) rest
      by false here rest = rest

pub places_are_those : (s : Shape) (path : List Word) (ls : List Leaf) → ls ≡ leaves s true path → chosen_places 0 ls ≡ places_of s path
places_are_those s path ls e =
    ap (chosen_places 0) e ∙ places_from (kinds_of s) [] (leaves s true path) 0 refl (sym (kinds_are s true path))
    ∙ ap (map (place_at (kinds_of s))) (places_are s path 0)

-- ---- fields by the integers under their paths

module _ (kinds : List IntKind) where
  is_none : (xs : List ℕ) → length (map (place_at kinds) xs) ≡ 0 → any_there xs ≡ false
  is_none [] e = refl
  is_none (x ∷ xs) e = absurd (omega (arith, e))

  is_some : (xs : List ℕ) → 0 < length (map (place_at kinds) xs) → any_there xs ≡ true
  is_some [] e = absurd (omega (arith, e))
  is_some (x ∷ xs) e = refl

  patches_same : (n : ℤ) (xs : List ℕ) → map (λ p. patch_with n p.at) (map (place_at kinds) xs) ≡ map (patch_with n) xs
  patches_same n [] = refl
  patches_same n (x ∷ xs) = ap (λ (ps : List Patch). patch_with n x ∷ ps) (patches_same n xs)

  fits_same : (n : ℤ) (xs : List ℕ) → list_all (λ p. fits p.kind n) (map (place_at kinds) xs) ≡ list_all (λ at. fits (slice_index_or kinds at I32) n) xs
  fits_same n [] = refl
  fits_same n (x ∷ xs) = ap (λ (b : Bool). fits (slice_index_or kinds x I32) n && b) (fits_same n xs)

-- what the integers under a field's path answer is the answer of the field
pub field_by : (s : Shape) (f : Field) (ps : List Place) (old new : List Patch) (answer : Option Bool) → ps ≡ places_of s f.path
    → PlacesAnswer ps f.with old new answer → FieldAnswer s f old new answer
unfolding field_fits
field_by s f ps old new None is got = is_none (kinds_of s) (under s f.path 0) (sym (ap length is) ∙ got)
field_by s f ps old new (Some fit) is got = (
  is_some (kinds_of s) (under s f.path 0) (subst (λ (qs : List Place). 0 < length qs) is got.0),
  got.1 ∙ ap (λ (qs : List Place). old ++ map (λ p. patch_with f.with p.at) qs) is ∙ ap (λ (qs : List Patch). old ++ qs) (patches_same (kinds_of s) f.with (under s f.path 0)),
  got.2 ∙ ap (list_all (λ p. fits p.kind f.with)) is ∙ fits_same (kinds_of s) f.with (under s f.path 0),
)

-- the same where the number was converted on the way
pub field_with : (s : Shape) (f : Field) (n : ℤ) (ps : List Place) (old new : List Patch) (answer : Option Bool) → n ≡ f.with → ps ≡ places_of s f.path
    → PlacesAnswer ps n old new answer → FieldAnswer s f old new answer
field_with s f n ps old new answer same is got = field_by s f ps old new answer is (subst (λ (m : ℤ). PlacesAnswer ps m old new answer) same got)
