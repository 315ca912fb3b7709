-- Any bytes can stand in a string.
use Rattle.std.proofs.Common.{◌≡◌, ℕ, suc, ◌<◌, List, [], ◌∷◌, length, get_or, refl, arith, true}
use Rattle.std.specs.List.{list_all}
use Rattle.std.proofs.lemmas.Bool.{lt-ltb}
use Rattle.cl_tree.specs.Words.{is_byte}

pub bytes_come : (t : List ℕ) → ((k : ℕ) → k < length t → get_or t k 0 < 256) → list_all is_byte t ≡ true
unfolding is_byte
bytes_come [] h = refl
bytes_come (b ∷ bs) h = rw (lt-ltb b 256 (h 0 (omega arith))) (bytes_come bs (λ k l. h (suc k) (omega arith)))
