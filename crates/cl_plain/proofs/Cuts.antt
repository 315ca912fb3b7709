-- The worked examples on cutting.
use Rattle.std.proofs.Common.{◌≡◌, ℕ, List, [], ◌∷◌, ◌++◌, refl}
use Rattle.cl_tree.specs.declared.grammar.Terminal.{Terminal}
use Rattle.cl_tree.specs.Items.{cut_from, cut}
use Rattle.cl_plain.specs.Cutting.{name, int, pragma, semicolon, closing, begin, end, variable, head, structure, initialised}

pub two_variables : (l m : ℕ) → cut (variable l 97 ++ variable m 98) ≡ variable l 97 ∷ variable m 98 ∷ []
unfolding cut cut_from
two_variables l m = refl

pub body_ends : (l m : ℕ) → cut (head l (begin l ∷ semicolon l ∷ end l ∷ variable m 97)) ≡ head l (begin l ∷ semicolon l ∷ end l ∷ []) ∷ variable m 97 ∷ []
unfolding cut cut_from
body_ends l m = refl

pub prototype_ends : (l m : ℕ) → cut (head l (semicolon l ∷ variable m 97)) ≡ head l (semicolon l ∷ []) ∷ variable m 97 ∷ []
unfolding cut cut_from
prototype_ends l m = refl

pub structure_ends : (l m : ℕ) → cut (structure l ++ variable m 98) ≡ structure l ∷ variable m 98 ∷ []
unfolding cut cut_from
structure_ends l m = refl

pub initialiser_stays : (l : ℕ) → cut (initialised l) ≡ initialised l ∷ []
unfolding cut cut_from
initialiser_stays l = refl

pub block_stays : (l : ℕ) → cut (head l (begin l ∷ begin l ∷ end l ∷ semicolon l ∷ end l ∷ [])) ≡ head l (begin l ∷ begin l ∷ end l ∷ semicolon l ∷ end l ∷ []) ∷ []
unfolding cut cut_from
block_stays l = refl

pub pragma_cuts : (l m n : ℕ) → cut (int l ∷ name l 97 ∷ pragma m ∷ semicolon n ∷ []) ≡ (int l ∷ name l 97 ∷ []) ∷ (pragma m ∷ []) ∷ (semicolon n ∷ []) ∷ []
unfolding cut cut_from
pragma_cuts l m n = refl

pub pragma_stays : (l m n : ℕ) → cut (head l (begin l ∷ pragma m ∷ end n ∷ [])) ≡ head l (begin l ∷ pragma m ∷ end n ∷ []) ∷ []
unfolding cut cut_from
pragma_stays l m n = refl

pub stray_cuts : (l m : ℕ) → cut (int l ∷ name l 97 ∷ closing l ∷ variable m 98) ≡ (int l ∷ name l 97 ∷ closing l ∷ []) ∷ variable m 98 ∷ []
unfolding cut cut_from
stray_cuts l m = refl
