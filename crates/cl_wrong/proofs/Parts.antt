-- One part of a struct's initialiser.
use Rattle.std.proofs.Common.{◌≡◌, ℕ, zero, suc, ◌+◌, ◌<◌, List, [], ◌∷◌, map, length, drop, get_or, slice_get, refl, sym, ap, ◌∙◌, add-one, drop-cons, Bool, true, false, ◌&&◌, Option, Some, None, option_map}
use Rattle.cl_tree.specs.declared.tree.CType.{CType}
use Rattle.cl_tree.specs.declared.tree.Init.{Init}
use Rattle.cl_typing.specs.Scope.{Field}
use Rattle.cl_typing.specs.Wrong.{members_fit}

-- a part of the member's type, if there is one, and the others
abbrev pub one_fits : Option CType → (CType → Bool) → Bool → Bool
one_fits None fits rest = false
one_fits (Some t) fits rest = fits t && rest

member_step : (members : List Field) (i : ℕ) (fits : CType → Bool) (rest : List (CType → Bool))
    → members_fit (drop i members) (fits ∷ rest)
    ≡ one_fits (option_map (λ (d : Field). d.ctype) (slice_get members i)) fits (members_fit (drop (suc i) members) rest)
unfolding members_fit
member_step [] zero fits rest = refl
member_step [] (suc i) fits rest = refl
member_step (d ∷ ds) zero fits rest = refl
member_step (d ∷ ds) (suc i) fits rest = member_step ds i fits rest

part_step : (f : Init → CType → Bool) (members : List Field) (parts : List Init) (p : Init) (i : ℕ)
    (o : Option CType) → i < length parts → p ≡ get_or parts i p
    → o ≡ option_map (λ (d : Field). d.ctype) (slice_get members i)
    → members_fit (drop i members) (map f (drop i parts))
    ≡ one_fits o (f p) (members_fit (drop (i + 1) members) (map f (drop (i + 1) parts)))
part_step f members parts p i o h is e =
    let k : drop i parts ≡ p ∷ drop (suc i) parts = drop-cons parts i p h
    ∙ ap (λ (x : Init). x ∷ drop (suc i) parts) (sym is) in
    rw (k, add-one, e) (member_step members i (f p) (map f (drop (suc i) parts)))

-- no member is left
pub part_missing : (f : Init → CType → Bool) (members : List Field) (parts : List Init) (p : Init) (i : ℕ)
    (whole : Bool) → i < length parts → p ≡ get_or parts i p
    → None ≡ option_map (λ (d : Field). d.ctype) (slice_get members i)
    → members_fit (drop i members) (map f (drop i parts)) ≡ whole → false ≡ whole
part_missing f members parts p i whole h is e rest = sym (part_step f members parts p i None h is e) ∙ rest

-- the part isn't of the member's type
pub part_wrong : (f : Init → CType → Bool) (members : List Field) (parts : List Init) (p : Init) (i : ℕ) (t : CType)
    (whole : Bool) → i < length parts → p ≡ get_or parts i p
    → Some t ≡ option_map (λ (d : Field). d.ctype) (slice_get members i) → false ≡ f p t
    → members_fit (drop i members) (map f (drop i parts)) ≡ whole → false ≡ whole
part_wrong f members parts p i t whole h is e differs rest =
    ap (λ (b : Bool). b && members_fit (drop (i + 1) members) (map f (drop (i + 1) parts))) differs
    ∙ sym (part_step f members parts p i (Some t) h is e) ∙ rest

-- it is, so the others decide
pub part_right : (f : Init → CType → Bool) (members : List Field) (parts : List Init) (p : Init) (i : ℕ) (t : CType)
    (whole : Bool) → i < length parts → p ≡ get_or parts i p
    → Some t ≡ option_map (λ (d : Field). d.ctype) (slice_get members i) → true ≡ f p t
    → members_fit (drop i members) (map f (drop i parts)) ≡ whole
    → members_fit (drop (i + 1) members) (map f (drop (i + 1) parts)) ≡ whole
part_right f members parts p i t whole h is e fits rest =
    ap (λ (b : Bool). b && members_fit (drop (i + 1) members) (map f (drop (i + 1) parts))) fits
    ∙ sym (part_step f members parts p i (Some t) h is e) ∙ rest
