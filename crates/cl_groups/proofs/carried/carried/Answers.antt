use Rattle.std.proofs.Common.{◌<◌, ◌∙◌, All, sym, subst}
use Rattle.cl_groups.proofs.Limits.{all_from, edges_below, seeds_below}
use Rattle.cl_groups.proofs.carried.carried.Goals as goal

pub propagate-requires-clause-seeds : goal.propagate-requires-clause-seeds
propagate-requires-clause-seeds c =
    subst (λ ss. All (λ s. s.node < 8192) ss) (sym (c.as_slice.ensures.value ∙ c.in_ok-ties.ensures.seeds))
    (all_from (λ s. s.node < 8192) _ (λ s h. (seeds_below c.args.own.now c.args.bodies.now c.requires.few c.requires.uses c.requires.levels s h).0))

pub propagate-requires-clause-labels : goal.propagate-requires-clause-labels
propagate-requires-clause-labels c =
    subst (λ ss. All (λ s. s.label < 32) ss) (sym (c.as_slice.ensures.value ∙ c.in_ok-ties.ensures.seeds))
    (all_from (λ s. s.label < 32) _ (λ s h. (seeds_below c.args.own.now c.args.bodies.now c.requires.few c.requires.uses c.requires.levels s h).1))

pub propagate-requires-clause-sources : goal.propagate-requires-clause-sources
propagate-requires-clause-sources c =
    subst (λ es. All (λ e. e.from < 8192) es) (sym (c.as_slice-2.ensures.value ∙ c.in_ok-ties.ensures.edges))
    (all_from (λ e. e.from < 8192) _ (λ e h. (edges_below c.args.own.now c.args.bodies.now c.requires.few c.requires.uses e h).0))

pub propagate-requires-clause-targets : goal.propagate-requires-clause-targets
propagate-requires-clause-targets c =
    subst (λ es. All (λ e. e.to < 8192) es) (sym (c.as_slice-2.ensures.value ∙ c.in_ok-ties.ensures.edges))
    (all_from (λ e. e.to < 8192) _ (λ e h. (edges_below c.args.own.now c.args.bodies.now c.requires.few c.requires.uses e h).1))
