use Rattle.std.proofs.Common.{◌≡◌, ℕ, Option, Some, true, refl, sym, ap, ◌∙◌, rules}
use Rattle.cl_mean.specs.declared.checked.Checked.{Checked}
use Rattle.rpc_codec.specs.Leaves.{leaves}
use Rattle.guard_places.specs.Places.{chosen_places}
use Rattle.guard_rules.specs.Places.{places_of}
use Rattle.guard_rules.specs.Policy.{payload}
use Rattle.guard_rules.proofs.Chosen.{places_are_those}
use Rattle.guard_rules.proofs.found.Paths.find.Goals as goal

pub returns : goal.returns
returns c =
    let source : c.self.inside.tables ≡ c.args.self.now = search rules in
    let function : c.args.sent.function ≡ Some c.in-Some.function = c.in-Some.is in
    record {
      kept = c.in_ok-places.ensures.kept ∙ source;
      found = c.in_ok-places.ensures.found
          ∙ ap (λ (k : Checked). chosen_places 0 (leaves (payload k (Some c.in-Some.function) c.args.sent.reply) true c.args.path.now)) source
          ∙ places_are_those (payload c.args.self.now (Some c.in-Some.function) c.args.sent.reply) c.args.path.now (leaves (payload c.args.self.now (Some c.in-Some.function) c.args.sent.reply) true c.args.path.now) refl
          ∙ ap (λ (f : Option ℕ). places_of (payload c.args.self.now f c.args.sent.reply) c.args.path.now) (sym function);
    }
