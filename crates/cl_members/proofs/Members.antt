-- The table of members, as the list of them.
use Rattle.std.proofs.Common.{zero-add, ◌≡◌, ℕ, suc, ◌+◌, ◌≤◌, ◌-◌, List, [], ◌∷◌, ◌++◌, length, refl, sym, ap, ◌∙◌, subst, arith, Bool, true, false, if◌then◌else◌, Option, Some, None, option_map, slice_get, bytes_eq, Bor}
use Rattle.std.proofs.lemmas.List.{length-map, map-append}
use Rattle.std.proofs.lemmas.Option.{slice_get-map}
use Rattle.std.specs.Map.{update}
use Rattle.cl_tree.specs.declared.tree.CType.{CType}
use Rattle.cl_tree.specs.declared.tree.Declarator.{Declarator}
use Rattle.cl_tree.specs.Words.{Word}
use Rattle.cl_typing.specs.Scope.{Field}
use Rattle.cl_typing.specs.Types.{member_type}
use Rattle.cl_scope.specs.declared.latest.Latest.{Latest}
use Rattle.cl_scope.specs.Table.{place_at}
use Rattle.cl_members.specs.Fields.{field_of, fields_in, first_from, IsIndexed}
use Rattle.cl_scope.proofs.Places.{same_name}

pub fields_push : (ds : List (Bor Declarator)) (d : Bor Declarator) → fields_in (ds ++ d ∷ []) ≡ fields_in ds
    ++ field_of d.now ∷ []
unfolding fields_in
fields_push ds d = map-append (λ (x : Bor Declarator). field_of x.now) ds (d ∷ [])

pub fields_length : (ds : List (Bor Declarator)) → length (fields_in ds) ≡ length ds
unfolding fields_in
fields_length ds = length-map ds (λ (x : Bor Declarator). field_of x.now)

pub fields_at : (ds : List (Bor Declarator)) (i : ℕ)
    → slice_get (fields_in ds) i ≡ option_map (λ (d : Bor Declarator). field_of d.now) (slice_get ds i)
unfolding fields_in
fields_at ds i = slice_get-map (λ (x : Bor Declarator). field_of x.now) ds i

-- one member more
abbrev or_else : Option ℕ → Option ℕ → Option ℕ
or_else None other = other
or_else (Some place) other = Some place

keep : (o : Option ℕ) → o ≡ or_else o None
keep None = refl
keep (Some place) = refl

push_case : (b : Bool) (place : ℕ) (o p other : Option ℕ) → o ≡ or_else p other
    → (if b then Some place else o) ≡ or_else (if b then Some place else p) other
push_case true place o p other h = refl
push_case false place o p other h = h

first_push : (place : ℕ) (fs : List Field) (f : Field) (name : Word)
    → first_from place (fs ++ f
    ∷ []) name ≡ or_else (first_from place fs name) (if bytes_eq f.name name then Some (place + length fs) else
    None)
unfolding first_from
first_push place [] f name = let e : place + 0 ≡ place = omega arith in rw e refl
first_push place (g ∷ fs) f name =
    let e : place + suc (length fs) ≡ suc place + length fs = omega arith in
    rw e (push_case (bytes_eq g.name name) place (first_from (suc place) (fs ++ f ∷ []) name)
    (first_from (suc place) fs name) (if bytes_eq f.name name then Some (suc place + length fs) else None)
    (first_push (suc place) fs f name))

new_case : (b : Bool) (n : ℕ) (name q : Word) (fs : List Field) (o : Option ℕ) → (b ≡ true → name ≡ q)
    → first_from 0 fs name ≡ None → o ≡ (if b then Some n else first_from 0 fs q)
    → o ≡ or_else (first_from 0 fs q) (if b then Some n else None)
new_case true n name q fs o same none h =
    let e : first_from 0 fs q ≡ None = subst (λ (w : Word). first_from 0 fs w ≡ None) (same refl) none in rw e h
new_case false n name q fs o same none h = h ∙ keep (first_from 0 fs q)

held_case : (b : Bool) (n k : ℕ) (name q : Word) (fs : List Field) → (b ≡ true → name ≡ q)
    → first_from 0 fs name ≡ Some k → first_from 0 fs q ≡ or_else (first_from 0 fs q) (if b then Some n else None)
held_case true n k name q fs same some =
    let e : first_from 0 fs q ≡ Some k = subst (λ (w : Word). first_from 0 fs w ≡ Some k) (same refl) some in rw e refl
held_case false n k name q fs same some = keep (first_from 0 fs q)

-- a name that had no place gets the new one
pub indexed_new : (ds all : List (Bor Declarator)) (d : Bor Declarator) (old new : Latest) → IsIndexed ds old → all ≡ ds
    ++ d ∷ [] → place_at old d.now.name ≡ None
    → ((q : Word) → place_at new q ≡ update bytes_eq (place_at old) d.now.name (Some (length ds)) q) → IsIndexed all new
indexed_new ds all d old new k e none u = λ q.
    let n : first_from 0 (fields_in ds) d.now.name ≡ None = sym (k d.now.name) ∙ none in
    let s : length (fields_in ds) ≡ length ds = fields_length ds in
    let h : place_at new q ≡ (if bytes_eq d.now.name q then Some (length ds) else first_from 0 (fields_in ds) q) = u q
    ∙ ap (λ (o : Option ℕ). if bytes_eq d.now.name q then Some (length ds) else o) (k q) in
    rw (e, fields_push ds d, first_push 0 (fields_in ds) (field_of d.now) q, s, zero-add (length ds))
    (new_case (bytes_eq d.now.name q) (length ds) d.now.name q (fields_in ds) (place_at new q)
    (same_name d.now.name q) n h)

-- a name that had one keeps it
pub indexed_held : (ds all : List (Bor Declarator)) (d : Bor Declarator) (old : Latest) (place : ℕ) → IsIndexed ds old
    → all ≡ ds ++ d ∷ [] → place_at old d.now.name ≡ Some place → IsIndexed all old
indexed_held ds all d old place k e some = λ q.
    let n : first_from 0 (fields_in ds) d.now.name ≡ Some place = sym (k d.now.name) ∙ some in
    let s : length (fields_in ds) ≡ length ds = fields_length ds in
    rw (e, fields_push ds d, first_push 0 (fields_in ds) (field_of d.now) q, s, zero-add (length ds), k q)
    (held_case (bytes_eq d.now.name q) (length ds) place d.now.name q (fields_in ds) (same_name d.now.name q) n)

pub indexed_none : (first : Latest) → ((q : Word) → place_at first q ≡ None) → IsIndexed [] first
unfolding first_from fields_in
indexed_none first h = h

pub fields_none : fields_in [] ≡ []
unfolding fields_in
fields_none = refl

-- what is found by a name
at_case : (b : Bool) (place i : ℕ) (f : Field) (fs : List Field) (o : Option ℕ) (m : Option CType)
    → (o ≡ Some i → (suc place ≤ i) × (option_map (λ (g : Field). g.ctype) (slice_get fs (i - suc place)) ≡ m))
    → (if b then Some place else o) ≡ Some i
    → (place ≤ i) × (option_map (λ (g : Field). g.ctype) (slice_get (f ∷ fs) (i - place))
    ≡ (if b then Some f.ctype else m))
at_case true place i f fs o m g h =
    let e : place ≡ i = cc in let z : i - place ≡ 0 = omega arith in (omega arith, rw z refl)
at_case false place i f fs o m g h =
    let r = g h in let l : suc place ≤ i = r.0 in let z : i - place ≡ suc (i - suc place) = omega arith in
    (omega arith, rw z r.1)

found_from : (place i : ℕ) (fs : List Field) (name : Word) → first_from place fs name ≡ Some i → (place ≤ i)
    × (option_map (λ (g : Field). g.ctype) (slice_get fs (i - place)) ≡ member_type name fs)
unfolding first_from member_type
found_from place i [] name h = absurd (cc)
found_from place i (f ∷ fs) name h =
    at_case (bytes_eq f.name name) place i f fs (first_from (suc place) fs name) (member_type name fs)
    (λ e. found_from (suc place) i fs name e) h

missing_case : (b : Bool) (place : ℕ) (t : CType) (o : Option ℕ) (m : Option CType) → (o ≡ None → m ≡ None)
    → (if b then Some place else o) ≡ None → (if b then Some t else m) ≡ None
missing_case true place t o m f h = absurd (cc)
missing_case false place t o m f h = f h

missing_from : (place : ℕ) (fs : List Field) (name : Word) → first_from place fs name ≡ None
    → member_type name fs ≡ None
unfolding first_from member_type
missing_from place [] name h = refl
missing_from place (f ∷ fs) name h =
    missing_case (bytes_eq f.name name) place f.ctype (first_from (suc place) fs name) (member_type name fs)
    (λ e. missing_from (suc place) fs name e) h

pub member_found : (ds : List (Bor Declarator)) (first : Latest) (fs : List Field) (name : Word) (i : ℕ)
    → IsIndexed ds first → fields_in ds ≡ fs → place_at first name ≡ Some i
    → option_map (λ (g : Field). g.ctype) (slice_get fs i) ≡ member_type name fs
member_found ds first fs name i k e h =
    let n : first_from 0 fs name ≡ Some i = ap (λ (x : List Field). first_from 0 x name) (sym e) ∙ sym (k name) ∙ h in
    let z : i - 0 ≡ i = omega arith in
    rw z at (found_from 0 i fs name n).1

pub member_missing : (ds : List (Bor Declarator)) (first : Latest) (fs : List Field) (name : Word) → IsIndexed ds first
    → fields_in ds ≡ fs → place_at first name ≡ None → None ≡ member_type name fs
member_missing ds first fs name k e h =
    let n : first_from 0 fs name ≡ None = ap (λ (x : List Field). first_from 0 x name) (sym e) ∙ sym (k name) ∙ h in
    sym (missing_from 0 fs name n)

pub fields_bind : (ds all : List (Bor Declarator)) (d : Bor Declarator) (fs : List Field) → all ≡ ds ++ d ∷ []
    → fields_in ds ≡ fs → fields_in all ≡ fs ++ field_of d.now ∷ []
fields_bind ds all d fs e h = ap fields_in e ∙ fields_push ds d ∙ ap (λ (x : List Field). x ++ field_of d.now ∷ []) h

type_case : (o : Option (Bor Declarator))
    → option_map (λ (f : Field). f.ctype) (option_map (λ (d : Bor Declarator). field_of d.now) o)
    ≡ option_map (λ (d : Bor Declarator). d.now.ctype) o
type_case None = refl
type_case (Some d) = refl

-- the type of the member at a place
pub type_at : (ds : List (Bor Declarator)) (fs : List Field) (i : ℕ) → fields_in ds ≡ fs
    → option_map (λ (d : Bor Declarator). d.now.ctype) (slice_get ds i)
    ≡ option_map (λ (f : Field). f.ctype) (slice_get fs i)
type_at ds fs i e =
    sym (type_case (slice_get ds i)) ∙ ap (option_map (λ (f : Field). f.ctype)) (sym (fields_at ds i))
    ∙ ap (λ (x : List Field). option_map (λ (f : Field). f.ctype) (slice_get x i)) e
