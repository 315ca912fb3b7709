-- The table of sizes, as the list of them.
use Rattle.std.proofs.Common.{◌≡◌, ℕ, List, [], ◌∷◌, ◌++◌, refl, sym, ap, ◌∙◌, Bool, true, false, if◌then◌else◌, Option, Some, None, option_map, unwrap_or, bytes_eq}
use Rattle.std.proofs.lemmas.List.{reverse-append}
use Rattle.std.specs.Map.{update}
use Rattle.cl_tree.specs.Words.{Word}
use Rattle.cl_typing.specs.Sizes.{Size, known_size, size_of_members}
use Rattle.cl_scope.specs.declared.latest.Latest.{Latest}
use Rattle.cl_scope.specs.Table.{place_at}
use Rattle.cl_large.specs.Capped.{capped}
use Rattle.cl_large.specs.Known.{struct_size, sizes_back, sizes_in, IsSized}
use Rattle.cl_large.specs.declared.sizes.Struct.{Struct}

pub sizes_push : (structs : List Struct) (s : Struct) → sizes_in (structs ++ s ∷ []) ≡ struct_size (sizes_in structs) s
    ∷ sizes_in structs
unfolding sizes_in sizes_back
sizes_push structs s = rw (reverse-append structs (s ∷ [])) refl

bool_case : (b : Bool) (n : ℕ) (o : Option ℕ)
    → (if b then Some (capped n) else option_map capped o) ≡ option_map capped (if b then Some n else o)
bool_case true n o = refl
bool_case false n o = refl

pub sized_push : (structs all : List Struct) (s : Struct) (old new : Latest) (size : ℕ) → IsSized structs old
    → all ≡ structs ++ s ∷ [] → size ≡ capped (size_of_members (sizes_in structs) s.members.now)
    → ((q : Word) → place_at new q ≡ update bytes_eq (place_at old) s.tag.now (Some size) q) → IsSized all new
unfolding known_size
sized_push structs all s old new size k e h u = λ q.
    rw (
      e,
      sizes_push structs s,
      u q,
      k q,
      h,
    ) (bool_case (bytes_eq s.tag.now q) (size_of_members (sizes_in structs) s.members.now)
    (known_size (sizes_in structs) q))

pub sized_none : (known : Latest) → ((q : Word) → place_at known q ≡ None) → IsSized [] known
unfolding known_size sizes_in sizes_back
sized_none known h = h

pub sizes_none : sizes_in [] ≡ []
unfolding sizes_in sizes_back
sizes_none = refl

some_case : (o : Option ℕ) (s : ℕ) → Some s ≡ option_map capped o → s ≡ capped (unwrap_or o 0)
some_case None s h = cc
some_case (Some n) s h = cc

none_case : (o : Option ℕ) → None ≡ option_map capped o → 0 ≡ capped (unwrap_or o 0)
none_case None h = refl
none_case (Some n) h = cc

pub known_some : (structs : List Struct) (known : Latest) (sizes : List Size) (tag : Word) (size : ℕ)
    → IsSized structs known → sizes_in structs ≡ sizes → place_at known tag ≡ Some size
    → size ≡ capped (unwrap_or (known_size sizes tag) 0)
known_some structs known sizes tag size k e h =
    some_case (known_size sizes tag) size (sym h ∙ k tag
    ∙ ap (λ (x : List Size). option_map capped (known_size x tag)) e)

pub known_none : (structs : List Struct) (known : Latest) (sizes : List Size) (tag : Word) → IsSized structs known
    → sizes_in structs ≡ sizes → place_at known tag ≡ None → 0 ≡ capped (unwrap_or (known_size sizes tag) 0)
known_none structs known sizes tag k e h =
    none_case (known_size sizes tag) (sym h ∙ k tag ∙ ap (λ (x : List Size). option_map capped (known_size x tag)) e)

pub sizes_bind : (structs all : List Struct) (s : Struct) (sizes : List Size) → all ≡ structs ++ s ∷ []
    → sizes_in structs ≡ sizes → sizes_in all ≡ struct_size sizes s ∷ sizes
sizes_bind structs all s sizes e h =
    ap sizes_in e ∙ sizes_push structs s ∙ ap (λ (x : List Size). struct_size x s ∷ x) h
