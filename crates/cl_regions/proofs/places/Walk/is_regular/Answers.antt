use Rattle.std.proofs.Common.{Option, Bool, false, sym, ap, ◌∙◌}
use Rattle.std.specs.Option.{unwrap_or}
use Rattle.std.specs.Vec.{vec_len}
use Rattle.cl_labelling.specs.Regions.{is_regular}
use Rattle.cl_regions.specs.Ahead.{is_regular_ahead}
use Rattle.cl_regions.proofs.Steps.{popped_at}
use Rattle.cl_regions.proofs.places.Walk.is_regular.Goals as goal

pub returns : goal.returns
returns c = record {
  value = λ begun p ps h e.
      let q = popped_at c.args.self.now begun p ps c.pop.result c.pop.new.self.items (vec_len c.args.self.now.ahead)
      (vec_len c.pop.new.self) h c.pop.ensures.items c.pop.ensures.rest c.pop.ensures.cases in
      c.regular_here.ensures begun ps h.holds (c.unwrap_or-ahead.ensures
      ∙ ap (λ (o : Option Bool). unwrap_or o false) q.0 ∙ ap (is_regular_ahead ps) e) ∙ ap (is_regular begun ps) (sym e);
  here = λ begun p ps h.
      let q = popped_at c.args.self.now begun p ps c.pop.result c.pop.new.self.items (vec_len c.args.self.now.ahead)
      (vec_len c.pop.new.self) h c.pop.ensures.items c.pop.ensures.rest c.pop.ensures.cases in
      record { holds = h.holds; ahead = q.1 };
}
