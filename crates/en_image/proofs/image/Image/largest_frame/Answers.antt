use Rattle.std.proofs.Common.{◌≡◌, ◌<◌, Option, None, length, get_or, subst, ap, List, arith}
use Rattle.std.specs.Prelude.{IfSome, IfNone}
use Rattle.en_image.specs.declared.image.Entrance.{Entrance}
use Rattle.en_image.proofs.Widest.{widest_more, least_more}
use Rattle.en_image.proofs.image.Image.largest_frame.Goals as goal

pub loop-function-preserved : goal.loop-function-preserved
loop-function-preserved c =
    let l = c.loop-function in
    let items = c.as_slice-function-items.ensures in
    let n = ap length items in
    let within : l.function-index < length c.args.self.now.functions = omega (arith, n, c.loop-function-test.true) in
    let some = subst (λ (fs : List (Option Entrance)). IfSome (get_or fs l.function-index None) (λ e. e.cells ≡ c.cells_of.result)) items c.cells_of.ensures.cells in
    let none = subst (λ (fs : List (Option Entrance)). IfNone (get_or fs l.function-index None) (c.cells_of.result ≡ 0)) items c.cells_of.ensures.none in
    record {
      widest = widest_more c.args.self.now.functions l.function-index l.largest c.cells_of.result c.max-largest.result l.invariant.widest within some c.max-largest.ensures;
      least = λ most wide. least_more c.args.self.now l.function-index l.largest c.cells_of.result c.max-largest.result most (l.invariant.least most wide) wide within some none c.max-largest.ensures;
    }
