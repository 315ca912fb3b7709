-- The end of two lists of parameters.
use Rattle.std.proofs.Common.{◌≡◌, ℕ, zero, suc, ◌≤◌, List, [], ◌∷◌, length, drop, refl, sym, ap, ◌∙◌, subst, arith, nat_eq, Bool}
use Rattle.cl_tree.specs.declared.tree.Declarator.{Declarator}
use Rattle.cl_typing.specs.Scope.{types_of}
use Rattle.cl_typing.specs.Wrong.{same_types}
use Rattle.cl_types.proofs.Ends.{not_yet, both_less, nothing_left}

none_left : (es : List Declarator) (i : ℕ) → i ≤ length es → same_types [] (types_of (drop i es)) ≡ nat_eq i (length es)
unfolding same_types
none_left [] zero h = refl
none_left [] (suc i) h = absurd (omega arith)
none_left (e ∷ es) zero h = not_yet (length es)
none_left (e ∷ es) (suc i) h = none_left es i (omega arith) ∙ both_less i (length es)

pub same_end : (ds es : List Declarator) (i : ℕ) (whole : Bool) → length ds ≤ i → i ≤ length ds → i ≤ length es
    → same_types (types_of (drop i ds)) (types_of (drop i es)) ≡ whole → nat_eq (length ds) (length es) ≡ whole
same_end ds es i whole a b h rest =
    let e : i ≡ length ds = omega arith in
    let r : same_types [] (types_of (drop i es)) ≡ whole =
    subst (λ (xs : List Declarator). same_types (types_of xs) (types_of (drop i es)) ≡ whole) (nothing_left ds i a)
    rest in
    ap (λ (n : ℕ). nat_eq n (length es)) (sym e) ∙ sym (none_left es i h) ∙ r
