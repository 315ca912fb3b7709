-- Where every definition is shaped, there are at most 32 levels.
use Rattle.std.proofs.Common.{◌≡◌, ◌≤◌, ℕ, List, [], ◌∷◌, ◌++◌, length, Bool, true, false, ◌&&◌, nat_le, is_some, refl, sym, subst, arith}
use Rattle.std.proofs.lemmas.Bool.Decides.{nat_tests}
use Rattle.cl_tree.specs.Words.{Word}
use Rattle.cl_typing.specs.Rules.{Lines, unless}
use Rattle.cl_labelling.specs.Text.{draft_in}
use Rattle.cl_labelling.specs.Names.{misshapen, levels_in, is_shaped, levels_after}
use Rattle.cl_labelling.specs.Pragmas.{Definition}

front_none : (a b : Lines) → a ++ b ≡ [] → a ≡ []
front_none [] b h = refl
front_none (x ∷ a) b h = cc

back_none : (a b : Lines) → a ++ b ≡ [] → b ≡ []
back_none [] b h = h
back_none (x ∷ a) b h = cc

holds : (b : Bool) (line : ℕ) → unless b line ≡ [] → b ≡ true
holds true line h = refl
holds false line h = cc

right_holds : (a b : Bool) → (a && b) ≡ true → b ≡ true
right_holds true b h = h
right_holds false b h = cc

few : (n : ℕ) → nat_le n 32 ≡ true → n ≤ 32
few n h = grind (arith, nat_tests)

pub levels_few : (ds : List Definition) (levels : List Word) → length levels ≤ 32 → misshapen levels ds ≡ []
    → length (levels_in levels ds) ≤ 32
unfolding misshapen levels_in
levels_few [] levels h e = h
levels_few (d ∷ ds) levels h e =
    let front : unless (is_shaped levels (draft_in d.text)) d.line ≡ [] =
    front_none (unless (is_shaped levels (draft_in d.text)) d.line) (misshapen (levels_after levels (draft_in d.text)) ds) e in
    let rest : misshapen (levels_after levels (draft_in d.text)) ds ≡ [] =
    back_none (unless (is_shaped levels (draft_in d.text)) d.line) (misshapen (levels_after levels (draft_in d.text)) ds) e in
    let one : nat_le (length (levels_after levels (draft_in d.text))) 32 ≡ true =
    right_holds (is_some (draft_in d.text)) (nat_le (length (levels_after levels (draft_in d.text))) 32)
    (holds (is_shaped levels (draft_in d.text)) d.line front) in
    levels_few ds (levels_after levels (draft_in d.text)) (few (length (levels_after levels (draft_in d.text))) one) rest

pub few_of : (ds : List Definition) (levels : List Word) → misshapen [] ds ≡ [] → levels ≡ levels_in [] ds
    → length levels ≤ 32
few_of ds levels e h =
    let none : length {A = Word} [] ≤ 32 = omega arith in
    subst (λ (ws : List Word). length ws ≤ 32) (sym h) (levels_few ds [] none e)
