-- What sinks have after some pieces.
use Rattle.std.proofs.Common.{ℕ, List, ◌++◌, Option, None, Some, option_map, ap, ◌∙◌, append_assoc, sym, refl, [], ◌⊎◌, take, Result, Ok, Err, IsErr, inl, inr, rules}
use Rattle.std.proofs.lemmas.List.{append-nil}
use Rattle.cl_base.specs.Outside.{Counts, Appended, Rose}
use Rattle.cl_job.specs.Answer.{WasGiven}
use Rattle.cl_job.specs.Seen.{Seen}
use Rattle.cl_job.specs.Sinks.{Grew}

pub grew_more : (a b : List ℕ) (before between now : Option (List ℕ)) → Grew a before between → Grew b between now → Grew (a ++ b) before now
grew_more a b None between now p q = record { is = q.is ∙ ap (λ o. option_map (λ bytes. bytes ++ b) o) p.is }
grew_more a b (Some bytes) between now p q =
    record { is = q.is ∙ (ap (λ o. option_map (λ x. x ++ b) o) p.is ∙ ap (λ x. Some x) (append_assoc bytes a b)) }

pub grew_none : (state : Option (List ℕ)) → Grew [] state state
grew_none None = record { is = refl }
grew_none (Some bytes) = record { is = ap (λ x. Some x) (sym (append-nil bytes)) }

pub ruleset growth = (grew_more, grew_none)

abbrev IsGiven : List ℕ → ℕ → ℕ → Option (List ℕ) → Option (List ℕ) → Type 0
IsGiven text count count' before now = Grew text before now ⊎ (Rose count count' × ((kept : ℕ) × Grew (take kept text) before now))

given_at : {E : Type 0} (piece : List ℕ) (count count' : ℕ) (before now : Option (List ℕ)) (r : Result (Unit {0}) E) → Counts (IsErr r) count count' → Appended piece before now r → IsGiven piece count count' before now
given_at piece count count' None now (Ok u) c a = inl (record { is = a })
given_at piece count count' (Some bytes) now (Ok u) c a = inl (record { is = a })
given_at piece count count' None now (Err e) c a = inr (c.rose (search rules), (0, record { is = a }))
given_at piece count count' (Some bytes) now (Err e) c a = inr (c.rose (search rules), (a.0, record { is = a.2 }))

-- one put gives standard error its piece
pub given : {E : Type 0} (piece : List ℕ) (before after : Seen) (r : Result (Unit {0}) E) → Counts (IsErr r) before.err_count after.err_count → Appended piece before.err after.err r → WasGiven piece before after
given piece before after r c a = given_at piece before.err_count after.err_count before.err after.err r c a
