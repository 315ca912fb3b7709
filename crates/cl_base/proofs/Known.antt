-- Known bytes that grow twice.
use Rattle.std.proofs.Common.{◌≡◌, ℕ, List, ◌++◌, take, drop, length, ◌+◌, ◌-◌, ap, ◌∙◌, append_assoc, subst, arith, Some, None}
use Rattle.std.proofs.lemmas.Grind.{common_steps}
use Rattle.std.proofs.Math.Seq.{take-add}
use Rattle.std.specs.Prelude.{Option}
use Rattle.std.specs.Io.KnownBytes.{Appends}

pub appends_both : (old mid new : Option (List ℕ)) (xs ys : List ℕ) → Appends old mid xs → Appends mid new ys → Appends old new (xs ++ ys)
appends_both None mid new xs ys h k = tt
appends_both (Some a) None new xs ys h k = absurd h
appends_both (Some a) (Some b) None xs ys h k = absurd k
appends_both (Some a) (Some b) (Some c) xs ys h k = k ∙ (ap (λ l. l ++ ys) h ∙ append_assoc a xs ys)

pub rest_whole : (done : ℕ) (piece : List ℕ) → take (length piece - done) (drop done piece) ≡ drop done piece
rest_whole done piece = grind (arith, common_steps)

-- a write of what is left that took so many bytes
pub appends_rest : (old mid new : Option (List ℕ)) (done taken : ℕ) (piece : List ℕ) → Appends old mid (take done piece)
    → Appends mid new (take taken (take (length piece - done) (drop done piece))) → Appends old new (take (done + taken) piece)
appends_rest old mid new done taken piece h k =
    let Grown : List ℕ → Type 0 = λ rest. Appends mid new (take taken rest) in
    rw take-add (appends_both old mid new _ _ h (subst Grown (rest_whole done piece) k))
