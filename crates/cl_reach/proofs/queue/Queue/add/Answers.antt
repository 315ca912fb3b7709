use Rattle.std.proofs.Common.{◌≡◌, ℕ, ◌++◌, [], ◌∷◌, List, subst, arith, inl, inr, ⊎_elim, sym}
use Rattle.std.proofs.lemmas.List.Elements.{Contains-push_cases}
use Rattle.std.proofs.lemmas.Grind.{common_steps}
use Rattle.std.specs.List.{Contains}
use Rattle.cl_reach.proofs.queue.Queue.add.Goals as goal
use Rattle.cl_reach.proofs.queue.Queue.add.Goals.{in-Some-get_mut, in_default-get_mut}

pub returns-clause-only : goal.returns-clause-only
returns-clause-only c =
    let e : c.match-get_mut-2.self-inside.nodes.items ≡ c.args.self.now ++ c.args.node ∷ [] = grind (arith, common_steps) in
    λ x h. ⊎_elim (λ (l : Contains c.args.self.now x). inl l) (λ (r : c.args.node ≡ x). inr (sym r)) (Contains-push_cases c.args.self.now c.args.node x (subst (λ (ys : List ℕ). Contains ys x) e h))
