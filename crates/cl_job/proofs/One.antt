-- A command has one expected answer.
use Rattle.std.proofs.Common.{◌≡◌, ◌≤◌, ◌<◌, ℕ, List, Option, None, Some, length, ap, sym, ◌∙◌, arith, subst, inl, inr}
use Rattle.cl_base.specs.Outside.{Held, file_of}
use Rattle.cl_form.proofs.Whole.{form_one}
use Rattle.cl_front.specs.Verdict.{IsAccepted, IsRefused}
use Rattle.cl_mean.specs.declared.checked.Checked.{Checked}
use Rattle.cl_rules.specs.declared.rule.Refusal.{Refusal}
use Rattle.cl_words.specs.Words.{Asked, Check, Run}
use Rattle.cl_job.specs.Answer.{Answer}
use Rattle.cl_job.specs.CheckAnswer.{CheckGives, IsJudged, listed}
use Rattle.cl_job.specs.Expected.{FileGives, IsExpected}
use Rattle.cl_job.specs.RunAnswer.{IsVerdict, RunGives, ran}
use Rattle.cl_job.specs.Verdict.{Verdict, Accepted, Refused}

-- no source is too short and too long
apart : (source : List ℕ) → length source ≤ 1048576 → 1048576 < length source → ⊥
apart source short long = omega arith

-- ---- a run

verdict_one : (source : List ℕ) (v w : Verdict) → IsVerdict source v → IsVerdict source w → v ≡ w
verdict_one source (Accepted c) (Accepted d) p q = ap (λ (x : Checked). Accepted x) (form_one source c d p.1 q.1)
verdict_one source (Accepted c) (Refused r) p (inl q) = absurd (apart source p.0 q.long)
verdict_one source (Accepted c) (Refused r) p (inr q) = absurd (q.none c p.1)
verdict_one source (Refused r) (Accepted d) (inl p) q = absurd (apart source q.0 p.long)
verdict_one source (Refused r) (Accepted d) (inr p) q = absurd (p.none d q.1)
verdict_one source (Refused r) (Refused s) (inl p) (inl q) = ap (λ (x : Refusal). Refused x) (p.is ∙ sym q.is)
verdict_one source (Refused r) (Refused s) (inl p) (inr q) = absurd (apart source q.short p.long)
verdict_one source (Refused r) (Refused s) (inr p) (inl q) = absurd (apart source p.short q.long)
verdict_one source (Refused r) (Refused s) (inr p) (inr q) = ap (λ (x : Refusal). Refused x) (p.is ∙ sym q.is)

run_one : (journal : Option (List ℕ)) (source : List ℕ) (a b : Answer) → RunGives journal source a → RunGives journal source b → a ≡ b
run_one journal source a b p q = p.is ∙ (ap (ran journal) (verdict_one source p.verdict q.verdict p.judged q.judged) ∙ sym q.is)

-- ---- a check, where the front end has one verdict

same_refusal : (r s : Refusal) → r.rule ≡ s.rule → r.line ≡ s.line → r ≡ s
same_refusal r s rule line = ap (λ (n : ℕ). record { rule = n; line = r.line }) rule ∙ ap (λ (n : ℕ). record { rule = s.rule; line = n }) line

module _ (not_both : (source : List ℕ) (c : Checked) (rule line : ℕ) → IsAccepted source c → IsRefused source rule line → ⊥)
    (one_checked : (source : List ℕ) (x c : Checked) → IsAccepted source x → IsAccepted source c → x ≡ c)
    (one_refusal : (source : List ℕ) (rule line r l : ℕ) → IsRefused source rule line → IsRefused source r l → (rule ≡ r) × (line ≡ l)) where
  judged_one : (source : List ℕ) (v w : Verdict) → IsJudged source v → IsJudged source w → v ≡ w
  judged_one source (Accepted c) (Accepted d) p q = ap (λ (x : Checked). Accepted x) (one_checked source c d p.1 q.1)
  judged_one source (Accepted c) (Refused r) p (inl q) = absurd (apart source p.0 q.long)
  judged_one source (Accepted c) (Refused r) p (inr q) = absurd (not_both source c r.rule r.line p.1 q.fails)
  judged_one source (Refused r) (Accepted d) (inl p) q = absurd (apart source q.0 p.long)
  judged_one source (Refused r) (Accepted d) (inr p) q = absurd (not_both source d r.rule r.line q.1 p.fails)
  judged_one source (Refused r) (Refused s) (inl p) (inl q) = ap (λ (x : Refusal). Refused x) (p.is ∙ sym q.is)
  judged_one source (Refused r) (Refused s) (inl p) (inr q) = absurd (apart source q.short p.long)
  judged_one source (Refused r) (Refused s) (inr p) (inl q) = absurd (apart source p.short q.long)
  judged_one source (Refused r) (Refused s) (inr p) (inr q) =
      let e = one_refusal source r.rule r.line s.rule s.line p.fails q.fails in ap (λ (x : Refusal). Refused x) (same_refusal r s e.0 e.1)

  check_one : (source : List ℕ) (a b : Answer) → CheckGives source a → CheckGives source b → a ≡ b
  check_one source a b p q = p.is ∙ (ap listed (judged_one source p.verdict q.verdict p.judged q.judged) ∙ sym q.is)

  -- two texts that a file holds are one
  same_source : (files : Held) (path source source' : List ℕ) → file_of files path ≡ Some source → file_of files path ≡ Some source' → source' ≡ source
  same_source files path source source' p q = cc

  file_one : (files : Held) (path : List ℕ) (Gives : List ℕ → Answer → Type 0) → ((source : List ℕ) (a b : Answer) → Gives source a → Gives source b → a ≡ b) → (a b : Answer) → FileGives (Some files) path Gives a → FileGives (Some files) path Gives b → a ≡ b
  file_one files path Gives one a b p q =
      one p.source a b p.gives (subst (λ (s : List ℕ). Gives s b) (same_source files path p.source q.source p.held q.held) q.gives)

  pub answer_one : (files : Held) (asked : Option Asked) (a b : Answer) → IsExpected (Some files) asked a → IsExpected (Some files) asked b → a ≡ b
  answer_one files None a b p q = p ∙ sym q
  answer_one files (Some (Check path)) a b p q = file_one files path CheckGives check_one a b p q
  answer_one files (Some (Run run)) a b p q = file_one files run.source (RunGives run.journal) (run_one run.journal) a b p q
