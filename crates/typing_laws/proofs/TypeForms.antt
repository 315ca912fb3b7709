-- Types: what a test says of them.
use Rattle.std.proofs.Common.{◌≡◌, ℕ, refl, sym, ap, ◌∙◌, Bool, true, ◌==◌, Some, subst, eqb-true}
use Rattle.cl_tree.specs.contracts.kinds.IntKind.{the_type}
use denote.Enum.Bare.{same_true}
use Rattle.cl_tree.specs.declared.kinds.IntKind.{IntKind}
use Rattle.cl_tree.specs.declared.tree.CType.{CType, CType-F, out-CType, roll-CType, ind-CType, map-CType, out-roll-CType, roll-out-CType, fold_out-CType}
use Rattle.cl_tree.specs.declared.tree.CType.TheOpen as ctype
use Rattle.cl_tree.specs.declared.tree.CType.TheVariants.{Void, Integer, Array, rolls-Void, rolls-Integer, rolls-Array}
use Rattle.cl_typing.specs.Types.{same_kind, same_level, same_type, kind_level, kind_of, element_level, element_of, void_level, is_void}
use Rattle.typing_laws.proofs.Lists.{both, same_word}
use Rattle.typing_laws.proofs.Levels.{is_made}

-- ---- forms of types

kind_made : (t : CType) (x : CType-F CType) (k : IntKind) → out-CType t ≡ x → kind_level x ≡ Some k → t ≡ Integer k
kind_made t ctype.Void k e h = absurd cc
kind_made t (ctype.Integer j) k e h = is_made t (ctype.Integer j) e ∙ rolls-Integer j ∙ ap Integer (cc)
kind_made t (ctype.Struct tag) k e h = absurd cc
kind_made t (ctype.Array u n) k e h = absurd cc
kind_made t (ctype.Pointer u) k e h = absurd cc
kind_made t ctype.Floating k e h = absurd cc

pub kind_is : (t : CType) (k : IntKind) → kind_of t ≡ Some k → t ≡ Integer k
unfolding kind_of
kind_is t k h = kind_made t (out-CType t) k refl h

element_made : (t : CType) (x : CType-F CType) (u : CType) → out-CType t ≡ x → element_level x ≡ Some u → (n : ℕ) × (t ≡ Array u n)
element_made t ctype.Void u e h = absurd cc
element_made t (ctype.Integer j) u e h = absurd cc
element_made t (ctype.Struct tag) u e h = absurd cc
element_made t (ctype.Array v n) u e h = (n, is_made t (ctype.Array v n) e ∙ rolls-Array v n ∙ ap (λ w. Array w n) (cc))
element_made t (ctype.Pointer v) u e h = absurd cc
element_made t ctype.Floating u e h = absurd cc

pub element_is : (t u : CType) → element_of t ≡ Some u → (n : ℕ) × (t ≡ Array u n)
unfolding element_of
element_is t u h = element_made t (out-CType t) u refl h

void_made : (t : CType) (x : CType-F CType) → out-CType t ≡ x → void_level x ≡ true → t ≡ Void
void_made t ctype.Void e h = is_made t ctype.Void e ∙ rolls-Void
void_made t (ctype.Integer j) e h = absurd cc
void_made t (ctype.Struct tag) e h = absurd cc
void_made t (ctype.Array v n) e h = absurd cc
void_made t (ctype.Pointer v) e h = absurd cc
void_made t ctype.Floating e h = absurd cc

pub void_is : (t : CType) → is_void t ≡ true → t ≡ Void
unfolding is_void
void_is t h = void_made t (out-CType t) refl h

-- ---- the same type

pub same_kind_is : (a b : IntKind) → same_kind a b ≡ true → a ≡ b
same_kind_is a b h = same_true the_type tt a b h

abbrev pub TypeParts : (CType → Type 0) → CType-F CType → Type 0
TypeParts P (ctype.Array t n) = P t
TypeParts P (ctype.Pointer t) = P t
TypeParts P _ = Unit {0}

type_parts_of : (P : CType → Type 0) (y : CType-F ((t : CType) × P t)) → TypeParts P (map-CType ((t : CType) × P t) CType (λ t. t.0) y)
type_parts_of P ctype.Void = tt
type_parts_of P (ctype.Integer k) = tt
type_parts_of P (ctype.Struct tag) = tt
type_parts_of P (ctype.Array t n) = t.1
type_parts_of P (ctype.Pointer t) = t.1
type_parts_of P ctype.Floating = tt

pub type_induction : (P : CType → Type 0) → ((t : CType) → TypeParts P (out-CType t) → P t) → (t : CType) → P t
type_induction P step = ind-CType P (λ x y q. step (roll-CType x) (subst (TypeParts P) (sym (out-roll-CType x)) (subst (TypeParts P) q (type_parts_of P y))))

abbrev pub Sames : Type 0
Sames = CType → Bool

same_type_is : (t u : CType) → same_type t u ≡ same_level (map-CType CType Sames same_type (out-CType t)) (out-CType u)
unfolding same_type
same_type_is t u = ap (λ (f : Sames). f u) (fold_out-CType Sames (λ x v. same_level x (out-CType v)) t)

same_made : (x y : CType-F CType) → TypeParts (λ t. (u : CType) → same_type t u ≡ true → t ≡ u) x → same_level (map-CType CType Sames same_type x) y ≡ true → x ≡ y
same_made ctype.Void ctype.Void p h = refl
same_made (ctype.Integer a) (ctype.Integer b) p h = ap ctype.Integer (same_kind_is a b h)
same_made (ctype.Struct a) (ctype.Struct b) p h = ap ctype.Struct (same_word a b h)
same_made (ctype.Array t n) (ctype.Array u m) p h =
    let e : n ≡ m = eqb-true n m (both (n == m) (same_type t u) h).0 in
    let f : t ≡ u = p u (both (n == m) (same_type t u) h).1 in
    cc
same_made (ctype.Pointer t) (ctype.Pointer u) p h = ap ctype.Pointer (p u h)
same_made ctype.Floating ctype.Floating p h = refl
same_made _ _ p h = absurd cc

pub type_same : (t u : CType) → same_type t u ≡ true → t ≡ u
type_same = type_induction (λ t. (u : CType) → same_type t u ≡ true → t ≡ u) (λ t p u h.
    sym (roll-out-CType t)
    ∙ ap roll-CType (same_made (out-CType t) (out-CType u) p (sym (same_type_is t u) ∙ h))
    ∙ roll-out-CType u)
