-- Lines from their parts.
use Rattle.std.proofs.Common.{◌≡◌, ℕ, List, [], ◌++◌, codes, refl}
use Rattle.cl_form.specs.Form.{def_line, function_text}

pub def_parts : {a n b c name : List ℕ} → (text : List ℕ) → a ≡ codes "#pragma cle def " → n ≡ name → b ≡ codes " " → c ≡ codes "\n"
    → a ++ (n ++ (b ++ (text ++ (c ++ [])))) ≡ def_line name text
unfolding def_line
def_parts text e f g h = rw (e, f, g, h) refl

pub function_parts : {a l b r c t d g e level remote touched given : List ℕ} → a ≡ codes "{\"level\":\"" → l ≡ level → b ≡ codes "\",\"cdf\":[{\"remotelevel\":\"" → r ≡ remote
    → c ≡ codes "\",\"direction\":\"bidirectional\",\"guarddirective\":{\"operation\":\"allow\"},\"argtaints\":[],\"codtaints\":[\"" → t ≡ touched → d ≡ codes "\"],\"rettaints\":[\"" → g ≡ given → e ≡ codes "\"]}]}"
    → a ++ (l ++ (b ++ (r ++ (c ++ (t ++ (d ++ (g ++ (e ++ [])))))))) ≡ function_text level remote touched given
unfolding function_text
function_parts i j k m n o p q s = rw (i, j, k, m, n, o, p, q, s) refl
