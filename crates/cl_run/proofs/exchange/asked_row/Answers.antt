use Rattle.std.proofs.Common.{◌≡◌, ap, ◌∙◌, ℕ, ◌-◌, ◌/◌}
use Rattle.rpc_codec.specs.declared.frame.Header.{Header}
use Rattle.cl_run.proofs.exchange.asked_row.Goals as goal

pub returns : goal.returns
returns c = λ h is.
    let same : c.in-Some.header ≡ h = c.one_header.ensures _ _ _ c.in-Some.ensures is in
    ap (λ (n : ℕ). n / 2) c.saturating_sub.ensures ∙ ap (λ (x : Header). (x.typ - 1) / 2) same
