-- Where a file stands in a list of files.
use Rattle.std.proofs.Common.{◌≡◌, ◌≢◌, ℕ, suc, ◌+◌, ◌<◌, ◌≤◌, Bool, true, false, cond, not, List, [], ◌∷◌, ◌++◌, length, get_or, set, Some, None, refl, sym, ap, arith}
use Rattle.std.proofs.lemmas.Map.{lookup-set_value}
use Rattle.std.proofs.lemmas.Slice.Eq.{bytes_eq-Decides}
use Rattle.std.specs.Cmp.Lexicographic.{nat_list_eq_equiv}
use Rattle.std.specs.Prelude.{bytes_eq, Option, MatchOption, IsSome, nat_lt}
use Rattle.std.specs.Option.{option_or}
use Rattle.std.specs.List.{position, prefix_len}
use Rattle.std.specs.Map.{lookup, set_value}
use Rattle.cl_base.specs.Outside.{Held, file_of, IsWritten}
use Rattle.cl_base.specs.Memory.{IsAt}

module _ {K X : Type 0} (test : K → Bool) where
  -- the index of the first entry that passes, or the length
  abbrev place : List (K × X) → ℕ
  place es = prefix_len (λ e. not (test e.0)) es

  lookup_at : (es : List (K × X)) (d : K × X) → place es < length es → lookup test es ≡ Some (get_or es (place es) d).1
  lookup_at [] d h = let none : ⊥ = omega (arith, h) in absurd none
  lookup_at (e ∷ es) d h =
      let step : 1 + place es ≡ suc (place es) = omega arith in
      (elim (test e.0) as (λ b. cond (not b) (1 + place es) 0 < length (e ∷ es) → cond b (Some e.1) (lookup test es) ≡ Some (get_or (e ∷ es) (cond (not b) (1 + place es) 0) d).1) [
        | true ↦ λ _. refl
        | false ↦ λ k. rw step (lookup_at es d (omega (arith, k)))
      ]) h

  lookup_past : (es : List (K × X)) → length es ≤ place es → lookup test es ≡ None
  lookup_past [] h = refl
  lookup_past (e ∷ es) h =
      (elim (test e.0) as (λ b. length (e ∷ es) ≤ cond (not b) (1 + place es) 0 → cond b (Some e.1) (lookup test es) ≡ None) [
        | true ↦ λ k. let none : ⊥ = omega (arith, k) in absurd none
        | false ↦ λ k. lookup_past es (omega (arith, k))
      ]) h

  set_at : (es : List (K × X)) (d : K × X) (w : X) → place es < length es → set es (place es) ((get_or es (place es) d).0, w) ≡ set_value test es w
  set_at [] d w h = let none : ⊥ = omega (arith, h) in absurd none
  set_at (e ∷ es) d w h =
      let step : 1 + place es ≡ suc (place es) = omega arith in
      (elim (test e.0) as (λ b. cond (not b) (1 + place es) 0 < length (e ∷ es) → set (e ∷ es) (cond (not b) (1 + place es) 0) ((get_or (e ∷ es) (cond (not b) (1 + place es) 0) d).0, w) ≡ cond b ((e.0, w) ∷ es) (e ∷ set_value test es w)) [
        | true ↦ λ _. refl
        | false ↦ λ k. rw step (ap (λ rest. e ∷ rest) (set_at es d w (omega (arith, k))))
      ]) h

  lookup_behind : (es : List (K × X)) (k : K) (x : X) → lookup test (es ++ (k, x) ∷ []) ≡ option_or (lookup test es) (cond (test k) (Some x) None)
  lookup_behind [] k x = refl
  lookup_behind (e ∷ es) k x =
      elim (test e.0) as (λ b. cond b (Some e.1) (lookup test (es ++ (k, x) ∷ [])) ≡ option_or (cond b (Some e.1) (lookup test es)) (cond (test k) (Some x) None)) [
        | true ↦ refl
        | false ↦ lookup_behind es k x
      ]

same_path : (path x y : List ℕ) → bytes_eq path x ≡ true → bytes_eq path y ≡ bytes_eq x y
same_path path x y h = ap (λ p. bytes_eq p y) ((bytes_eq-Decides path x).0 h)

other_path : (path other : List ℕ) → other ≢ path → bytes_eq path other ≡ false
other_path path other h =
    (elim (bytes_eq path other) as (λ b. bytes_eq path other ≡ b → b ≡ false) [
      | true ↦ λ e. absurd (h (sym ((bytes_eq-Decides path other).0 e)))
      | false ↦ λ _. refl
    ]) refl

lookup_written : (path bytes : List ℕ) (files : Held) (q : List ℕ) → IsSome (file_of files path)
    → file_of (set_value (bytes_eq path) files bytes) q ≡ cond (bytes_eq path q) (Some bytes) (file_of files q)
lookup_written path bytes files q h = lookup-set_value nat_list_eq_equiv (bytes_eq path) (same_path path) q bytes files h

replaced : (path bytes : List ℕ) (files : Held) → IsSome (file_of files path) → IsWritten path bytes files (set_value (bytes_eq path) files bytes)
replaced path bytes files h = (
  rw (lookup_written path bytes files path h, (bytes_eq-Decides path path).1 refl) refl,
  λ other apart. rw (lookup_written path bytes files other h, other_path path other apart) refl,
)

is_at : (path : List ℕ) (files : Held) → place (bytes_eq path) files < length files → IsAt path files (place (bytes_eq path) files)
is_at path files h =
    record {
      inside = h;
      bytes = lookup_at (bytes_eq path) files ([], []) h;
      written = λ bytes. rw (set_at (bytes_eq path) files ([], []) bytes h) (replaced path bytes files (rw (lookup_at (bytes_eq path) files ([], []) h) refl));
    }

or_none : {X : Type 0} (o : Option X) → option_or o None ≡ o
or_none None = refl
or_none (Some x) = refl

pub pushed : (path bytes : List ℕ) (files : Held) → file_of files path ≡ None → IsWritten path bytes files (files ++ (path, bytes) ∷ [])
pushed path bytes files h = (
  rw (lookup_behind (bytes_eq path) files path bytes, h, (bytes_eq-Decides path path).1 refl) refl,
  λ other apart. rw (lookup_behind (bytes_eq other) files path bytes, other_path other path (λ e. apart (sym e))) (or_none _),
)

pub found : (path : List ℕ) (files : Held) (at : Option ℕ) → at ≡ position (λ file. bytes_eq path file.0) files
    → MatchOption at (file_of files path ≡ None) (IsAt path files)
found path files at e =
    rw e
    ((elim (nat_lt (place (bytes_eq path) files) (length files)) as (λ b. nat_lt (place (bytes_eq path) files) (length files) ≡ b
    → MatchOption (cond b (Some (place (bytes_eq path) files)) None) (file_of files path ≡ None) (IsAt path files)) [
      | true ↦ λ h. is_at path files (grind (arith, h))
      | false ↦ λ h. lookup_past (bytes_eq path) files (grind (arith, h))
    ]) refl)
