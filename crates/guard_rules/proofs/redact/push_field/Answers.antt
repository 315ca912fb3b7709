use Rattle.std.proofs.Common.{◌≡◌, List, ap, ◌∙◌, rules, to_z, of_z}
use Rattle.std.specs.Int.{w128}
use Rattle.std.proofs.lemmas.Int.{to_z-of_z}
use Rattle.cl_tree.specs.Words.{Word}
use Rattle.guard_rules.specs.Places.{places_of}
use Rattle.guard_rules.specs.Policy.{payload}
use Rattle.guard_rules.proofs.Chosen.{field_with}
use Rattle.guard_rules.proofs.redact.push_field.Goals as goal

pub returns-in-Some-clause-answer : goal.returns-in-Some-clause-answer
returns-in-Some-clause-answer c =
    let number : to_z w128 (of_z w128 c.args.field.now.with) ≡ c.args.field.now.with = search (rules, to_z-of_z) in
    let is : c.in-Some.places.now ≡ places_of (payload c.args.paths.now c.args.sent.function c.args.sent.reply) c.args.field.now.path
    = c.in-Some.ensures ∙ ap (λ (path : List Word). places_of (payload c.args.paths.now c.args.sent.function c.args.sent.reply) path) c.as_slice-path.ensures in
    field_with (payload c.args.paths.now c.args.sent.function c.args.sent.reply) c.args.field.now (to_z w128 (of_z w128 c.args.field.now.with)) c.in-Some.places.now c.args.patches.now c.push_found.new.patches c.in_ok-answer.answer number is c.in_ok-answer.ensures

pub returns-clause-answer : goal.returns-clause-answer
returns-clause-answer c =
    let number : to_z w128 (of_z w128 c.args.field.now.with) ≡ c.args.field.now.with = search (rules, to_z-of_z) in
    let is : c.as_slice.result.now ≡ places_of (payload c.args.paths.now c.args.sent.function c.args.sent.reply) c.args.field.now.path
    = c.as_slice.ensures.value ∙ c.in_ok-places.ensures.found
    ∙ ap (λ (path : List Word). places_of (payload c.args.paths.now c.args.sent.function c.args.sent.reply) path) c.as_slice-path.ensures in
    field_with (payload c.args.paths.now c.args.sent.function c.args.sent.reply) c.args.field.now (to_z w128 (of_z w128 c.args.field.now.with)) c.as_slice.result.now c.args.patches.now c.push_found-2.new.patches c.in_ok-answer-2.answer number is c.in_ok-answer-2.ensures
