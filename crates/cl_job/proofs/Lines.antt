-- Texts that grow by lines.
use Rattle.std.proofs.Common.{◌≡◌, ◌∙◌, ℕ, List, ◌++◌, append_assoc}

-- the line that comes next goes from what is left to what is done
pub one_more : (done line left whole : List ℕ) → done ++ (line ++ left) ≡ whole → (done ++ line) ++ left ≡ whole
one_more done line left whole is = append_assoc done line left ∙ is
