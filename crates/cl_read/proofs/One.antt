-- A source has one answer.
use Rattle.std.proofs.Common.{◌≡◌, ◌⊎◌, inl, inr, ℕ, List, subst}
use Rattle.cl_tree.specs.declared.token.Token.{Token}
use Rattle.cl_tree.specs.declared.tree.Program.{Program}
use Rattle.cl_tree.specs.Tokens.{AreTokens, LexFails, HasAnswer}
use Rattle.cl_tree.specs.Reading.{WithinLimits, ReadsAs, ParseFails}
use Rattle.cl_tree.specs.Reading as reading
use Rattle.cl_lex.proofs.Cuts.{one_answer}
use Rattle.cl_lex.proofs.Total.{an_answer}
use Rattle.cl_parse.proofs.Reread as reread
use Rattle.cl_parse.proofs.Answered.{one_side, same_failure}
use Rattle.cl_read.specs.Source.{ReadsWithin, FailsFirst, HasProgram, HasFailure}

pub one_reading : (source : List ℕ) (p q : Program) → ReadsWithin source p → ReadsWithin source q → p ≡ q
one_reading source p q h k =
    let same : h.tokens ≡ k.tokens = (one_answer source).0 h.tokens k.tokens h.cut k.cut in
    reread.one_reading k.tokens p q (subst (λ (ts : List Token). ReadsAs ts p) same h.reads) k.reads

of_lexed : (source : List ℕ) → HasAnswer source → HasProgram source ⊎ HasFailure source
of_lexed source (inr f) = inr (f.0, f.1, inl f.2)
of_lexed source (inl c) = by (reread.has_answer c.0)
  where
    by : reading.HasProgram c.0 ⊎ reading.HasFailure c.0 → HasProgram source ⊎ HasFailure source
    by (inl p) = inl (p.0, record { tokens = c.0; cut = c.1; within = p.1; reads = p.2 })
    by (inr f) = inr (f.0, f.1, inr (c.0, c.1, f.2))

pub has_answer : (source : List ℕ) → HasProgram source ⊎ HasFailure source
has_answer source = of_lexed source (an_answer source)

pub one_side_only : (source : List ℕ) → HasProgram source → HasFailure source → ⊥
one_side_only source p f = by f.2
  where
    by : FailsFirst source f.0 f.1 → ⊥
    by (inl l) = (one_answer source).1 p.1.tokens f.0 f.1 p.1.cut l
    by (inr r) =
        let same : r.0 ≡ p.1.tokens = (one_answer source).0 r.0 p.1.tokens r.1 p.1.cut in
        one_side p.1.tokens (p.0, p.1.within, p.1.reads) (f.0, f.1, subst (λ (ts : List Token). ParseFails ts f.0 f.1) same r.2)

pub one_failure : (source : List ℕ) (rule line r l : ℕ) → FailsFirst source rule line → FailsFirst source r l → (rule ≡ r) × (line ≡ l)
one_failure source rule line r l (inl f) (inl g) = (one_answer source).2 rule line r l f g
one_failure source rule line r l (inl f) (inr g) = absurd ((one_answer source).1 g.0 rule line g.1 f)
one_failure source rule line r l (inr f) (inl g) = absurd ((one_answer source).1 f.0 r l f.1 g)
one_failure source rule line r l (inr f) (inr g) =
    let same : f.0 ≡ g.0 = (one_answer source).0 f.0 g.0 f.1 g.1 in
    same_failure g.0 rule line r l (subst (λ (ts : List Token). ParseFails ts rule line) same f.2) g.2
