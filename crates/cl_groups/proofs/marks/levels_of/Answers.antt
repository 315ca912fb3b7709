use Rattle.std.proofs.Common.{◌∙◌, ◌+◌, ◌∷◌, [], ℕ, length, ap}
use Rattle.std.proofs.lemmas.List.{length-append}
use Rattle.cl_groups.proofs.Borne.{one_stands}
use Rattle.cl_groups.proofs.marks.levels_of.Goals as goal

pub loop-k-preserved : goal.loop-k-preserved
loop-k-preserved c = (
  ap length c.in_ok-push.ensures.ok ∙ length-append c.loop-k.levels (c.level_at.result ∷ []) ∙ ap (λ (n : ℕ). n + 1) c.loop-k.invariant.0,
  one_stands c.args.carried.now c.args.own.now c.args.odd c.args.otherwise c.loop-k.levels c.push.new.self c.loop-k.k c.level_at.result
      c.loop-k.invariant.0 c.loop-k.invariant.1 c.level_at.ensures c.in_ok-push.ensures.ok,
)
