use Rattle.std.proofs.Common.{◌<◌, ◌∙◌, All, sym, subst}
use Rattle.cl_groups.proofs.Limits.{all_from}
use Rattle.cl_loans.proofs.Below.{names_below, backs_below}
use Rattle.cl_loans.proofs.naming.named.Goals as goal

pub propagate-requires-clause-seeds : goal.propagate-requires-clause-seeds
propagate-requires-clause-seeds c =
    subst (λ ss. All (λ s. s.node < 4096) ss) (sym (c.as_slice.ensures.value ∙ c.in_ok-naming.ensures.seeds))
    (all_from (λ s. s.node < 4096) _ (λ s h. (names_below c.args.bodies.now c.requires.few c.requires.uses s h).0))

pub propagate-requires-clause-labels : goal.propagate-requires-clause-labels
propagate-requires-clause-labels c =
    subst (λ ss. All (λ s. s.label < 4096) ss) (sym (c.as_slice.ensures.value ∙ c.in_ok-naming.ensures.seeds))
    (all_from (λ s. s.label < 4096) _ (λ s h. (names_below c.args.bodies.now c.requires.few c.requires.uses s h).1))

pub propagate-requires-clause-sources : goal.propagate-requires-clause-sources
propagate-requires-clause-sources c =
    subst (λ es. All (λ e. e.from < 4096) es) (sym (c.as_slice-2.ensures.value ∙ c.in_ok-naming.ensures.edges))
    (all_from (λ e. e.from < 4096) _ (λ e h. (backs_below c.args.bodies.now c.requires.few c.requires.uses e h).0))

pub propagate-requires-clause-targets : goal.propagate-requires-clause-targets
propagate-requires-clause-targets c =
    subst (λ es. All (λ e. e.to < 4096) es) (sym (c.as_slice-2.ensures.value ∙ c.in_ok-naming.ensures.edges))
    (all_from (λ e. e.to < 4096) _ (λ e h. (backs_below c.args.bodies.now c.requires.few c.requires.uses e h).1))
