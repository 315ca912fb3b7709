-- The end of a list of arguments.
use Rattle.std.proofs.Common.{◌≡◌, ℕ, zero, suc, ◌≤◌, List, [], ◌∷◌, map, length, drop, refl, sym, ap, ◌∙◌, subst, arith, nat_eq, Bool}
use Rattle.cl_tree.specs.declared.tree.Declarator.{Declarator}
use Rattle.cl_tree.specs.declared.tree.Expr.{Expr}
use Rattle.cl_typing.specs.Scope.{types_of}
use Rattle.cl_typing.specs.Types.{Judged, arguments_fit}
use Rattle.cl_types.proofs.Ends.{not_yet, both_less, nothing_left}

none_left : (ps : List Declarator) (i : ℕ) → i ≤ length ps
    → arguments_fit (types_of (drop i ps)) [] ≡ nat_eq i (length ps)
unfolding arguments_fit
none_left [] zero h = refl
none_left [] (suc i) h = absurd (omega arith)
none_left (p ∷ ps) zero h = not_yet (length ps)
none_left (p ∷ ps) (suc i) h = none_left ps i (omega arith) ∙ both_less i (length ps)

pub fits_end : (f : Expr → Judged) (ps : List Declarator) (es : List Expr) (i : ℕ) (whole : Bool) → length es ≤ i
    → i ≤ length es → i ≤ length ps
    → arguments_fit (types_of (drop i ps)) (map f (drop i es)) ≡ whole → nat_eq (length es) (length ps) ≡ whole
fits_end f ps es i whole a b h rest =
    let e : i ≡ length es = omega arith in
    let r : arguments_fit (types_of (drop i ps)) [] ≡ whole =
    subst (λ (xs : List Expr). arguments_fit (types_of (drop i ps)) (map f xs) ≡ whole) (nothing_left es i a) rest
    in
    ap (λ (n : ℕ). nat_eq n (length ps)) (sym e) ∙ sym (none_left ps i h) ∙ r
