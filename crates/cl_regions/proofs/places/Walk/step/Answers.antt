use Rattle.std.proofs.Common.{sym, subst}
use Rattle.cl_labelling.specs.Regions.{Role, open_after}
use Rattle.cl_regions.specs.Bag.{Holds}
use Rattle.cl_regions.proofs.places.Walk.step.Goals as goal

pub returns-clause-here : goal.returns-clause-here
returns-clause-here c = λ begun p ps h e l.
    let at = c.is_regular-regular.ensures.here begun p ps h in
    record {
      holds = subst (λ (r : Role). Holds c.pass.new.self (open_after begun r)) (sym e)
          (c.in_ok-pass.ensures begun at.holds l);
      ahead = at.ahead;
    }
