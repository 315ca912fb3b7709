-- One byte of a format.
use Rattle.std.proofs.Common.{◌≡◌, ◌⊎◌, inl, inr, ℕ, suc, ◌+◌, ◌<◌, ◌≤◌, List, [], ◌∷◌, map, length, drop, get_or, refl, sym, ap, ◌∙◌, subst, arith, nat_eq, zero, Bool, true, false, ◌&&◌, Option, Some, None, drop-cons}
use Rattle.cl_tree.specs.declared.tree.Expr.{Expr}
use Rattle.cl_typing.specs.declared.format.Part.{Part}
use Rattle.cl_typing.specs.declared.format.Part.TheVariants.{Text, Percent, OneL, TwoL}
use Rattle.cl_typing.specs.declared.format.Read.{Read}
use Rattle.cl_typing.specs.declared.format.Read.TheVariants.{On, Takes, Wrong}
use Rattle.cl_typing.specs.declared.format.Want.{Want}
use Rattle.cl_typing.specs.Types.{Judged, judged, wanted, wants_of, wants_at_end, after_read, and_then_wants, read_byte, all_wanted, wants_operand, operand}
use Rattle.cl_typing.specs.Scope.{Env}
use Rattle.cl_types.specs.Views.{first_wanted, fits_from}
use Rattle.cl_types.proofs.Ends.{not_yet, both_less, nothing_left}
use Rattle.std.proofs.lemmas.List.{drop-drop, drop-map}

and_none : (b : Bool) → false ≡ (b && false)
and_none true = refl
and_none false = refl

takes_one : (w : Want) (o : Option (List Want)) (js : List Judged)
    → wanted (and_then_wants w o) js ≡ (first_wanted w js && wanted o (drop 1 js))
unfolding wanted all_wanted
takes_one w None [] = refl
takes_one w None (j ∷ js) = and_none (wants_operand w (operand j))
takes_one w (Some ws) [] = refl
takes_one w (Some ws) (j ∷ js) = refl

drop_more : (es : List Expr) (i : ℕ) → drop 1 (drop i es) ≡ drop (i + 1) es
drop_more es i = drop-drop 1 i es

-- a byte that leads on
pub on_part : (tags names : Env) (part to : Part) (b : ℕ) (rest : List ℕ) (es : List Expr)
    → On to ≡ read_byte part b
    → fits_from tags names part (b ∷ rest) es ≡ fits_from tags names to rest es
unfolding fits_from wants_of
on_part tags names part to b rest es r =
    ap (λ (x : Read). wanted (after_read x (λ n. wants_of n rest)) (map (judged tags names) es)) (sym r)

-- a conversion, and its argument
takes_both : (tags names : Env) (part : Part) (w : Want) (b : ℕ) (rest : List ℕ) (es : List Expr)
    → Takes w ≡ read_byte part b
    → fits_from tags names part (b ∷ rest) es
    ≡ (first_wanted w (map (judged tags names) es) && wanted (wants_of Text rest) (drop 1 (map (judged tags names) es)))
unfolding fits_from wants_of
takes_both tags names part w b rest es r =
    ap (λ (x : Read). wanted (after_read x (λ n. wants_of n rest)) (map (judged tags names) es)) (sym r)
    ∙ takes_one w (wants_of Text rest) (map (judged tags names) es)

pub takes_part : (tags names : Env) (part : Part) (w : Want) (b : ℕ) (rest : List ℕ) (es : List Expr) (i : ℕ)
    → Takes w ≡ read_byte part b → true ≡ first_wanted w (map (judged tags names) (drop i es))
    → fits_from tags names part (b ∷ rest) (drop i es) ≡ fits_from tags names Text rest (drop (i + 1) es)
unfolding fits_from
takes_part tags names part w b rest es i r h =
    takes_both tags names part w b rest (drop i es) r
    ∙ ap (λ (x : Bool). x && wanted (wants_of Text rest) (drop 1 (map (judged tags names) (drop i es)))) (sym h)
    ∙ ap (wanted (wants_of Text rest)) (drop-map (judged tags names) 1 (drop i es))
    ∙ ap (λ (x : List Expr). wanted (wants_of Text rest) (map (judged tags names) x)) (drop_more es i)

pub takes_none : (tags names : Env) (part : Part) (w : Want) (b : ℕ) (rest : List ℕ) (es : List Expr)
    → Takes w ≡ read_byte part b → false ≡ first_wanted w (map (judged tags names) es)
    → fits_from tags names part (b ∷ rest) es ≡ false
takes_none tags names part w b rest es r h =
    takes_both tags names part w b rest es r
    ∙ ap (λ (x : Bool). x && wanted (wants_of Text rest) (drop 1 (map (judged tags names) es))) (sym h)

pub wrong_part : (tags names : Env) (part : Part) (b : ℕ) (rest : List ℕ) (es : List Expr) → Wrong ≡ read_byte part b
    → fits_from tags names part (b ∷ rest) es ≡ false
unfolding fits_from wants_of wanted
wrong_part tags names part b rest es r =
    ap (λ (x : Read). wanted (after_read x (λ n. wants_of n rest)) (map (judged tags names) es)) (sym r)

-- a byte that has no place there
pub stops : (tags names : Env) (part : Part) (bytes : List ℕ) (i : ℕ) (es : List Expr) (whole : Bool)
    → i < length bytes → ((rest : List ℕ) → fits_from tags names part (get_or bytes i 0 ∷ rest) es ≡ false)
    → fits_from tags names part (drop i bytes) es ≡ whole → false ≡ whole
stops tags names part bytes i es whole h none rest =
    sym (none (drop (suc i) bytes))
    ∙ ap (λ (bs : List ℕ). fits_from tags names part bs es) (sym (drop-cons bytes i 0 h)) ∙ rest

-- ---- the end of a format

all_taken : (f : Expr → Judged) (es : List Expr) (i : ℕ) → i ≤ length es
    → all_wanted [] (map f (drop i es)) ≡ nat_eq i (length es)
unfolding all_wanted
all_taken f [] zero h = refl
all_taken f [] (suc i) h = absurd (omega arith)
all_taken f (e ∷ es) zero h = not_yet (length es)
all_taken f (e ∷ es) (suc i) h = all_taken f es i (omega arith) ∙ both_less i (length es)

at_end : (tags names : Env) (part : Part) (bytes : List ℕ) (i : ℕ) (es : List Expr) (whole : Bool) → length bytes ≤ i
    → fits_from tags names part (drop i bytes) es ≡ whole
    → wanted (wants_at_end part) (map (judged tags names) es) ≡ whole
unfolding fits_from wants_of
at_end tags names part bytes i es whole h rest =
    subst (λ (bs : List ℕ). fits_from tags names part bs es ≡ whole) (nothing_left bytes i h) rest

pub end_text : (tags names : Env) (part : Part) (es : List Expr) (bytes : List ℕ) (i taken : ℕ) (whole : Bool)
    → part ≡ Text → length bytes ≤ i → taken ≤ length es
    → fits_from tags names part (drop i bytes) (drop taken es) ≡ whole → nat_eq taken (length es) ≡ whole
unfolding wanted
end_text tags names part es bytes i taken whole e h l rest =
    let r : fits_from tags names Text (drop i bytes) (drop taken es) ≡ whole =
    subst (λ (p : Part). fits_from tags names p (drop i bytes) (drop taken es) ≡ whole) e rest in
    sym (all_taken (judged tags names) es taken l) ∙ at_end tags names Text bytes i (drop taken es) whole h r

-- a format doesn't end in a conversion
pub no_end : (part : Part) → (part ≡ Percent) ⊎ ((part ≡ OneL) ⊎ (part ≡ TwoL)) → wants_at_end part ≡ None
no_end Text (inl e) = absurd (cc)
no_end Text (inr (inl e)) = absurd (cc)
no_end Text (inr (inr e)) = absurd (cc)
no_end Percent h = refl
no_end OneL h = refl
no_end TwoL h = refl

pub end_inside : (tags names : Env) (part : Part) (es : List Expr) (bytes : List ℕ) (i : ℕ) (whole : Bool)
    → wants_at_end part ≡ None → length bytes ≤ i → fits_from tags names part (drop i bytes) es ≡ whole → false ≡ whole
unfolding wanted
end_inside tags names part es bytes i whole e h rest =
    ap (λ (o : Option (List Want)). wanted o (map (judged tags names) es)) (sym e)
    ∙ at_end tags names part bytes i es whole h rest
