use Rattle.std.proofs.Common.{◌≡◌, length, rules, ap, sym, ◌∙◌, take}
use Rattle.cl_mean.specs.Shape.{shape_of, structs_of}
use Rattle.guard_places.proofs.Inners.{none_inside}
use Rattle.guard_places.proofs.table.inner_of.Goals as goal

pub returns-then-is_empty : goal.returns-then-is_empty
returns-then-is_empty c =
    let none : length c.args.all.now ≡ 0 = search rules in
    none_inside c.args.items.now (shape_of (structs_of (take c.args.known c.args.items.now)) c.args.ctype.now) (ap length (sym c.requires.all) ∙ none)
