use Rattle.std.proofs.Common.{◌+◌, ◌++◌, map, drop, refl, sym, ◌∙◌, arith}
use Rattle.cl_tree.specs.Joins.{cells}
use Rattle.cl_lex.proofs.Joins.{joins, kept_one}
use Rattle.cl_lex.proofs.text.unjoin.Goals as goal
use Rattle.cl_lex.proofs.text.unjoin.Goals.{then-skip-gt0, else-skip-gt0+then-join-eq0+in_ok-push+in_ok-push-2, else-skip-gt0+else-join-eq0}

pub loop-i-preserved : goal.loop-i-preserved
loop-i-preserved c =
    let s = c.args.source.now in
    let here = c.loop-i in
    record {
      lines = omega arith;
      bytes = elim c.if-skip-gt0.branch [
        | then-skip-gt0 w ↦ grind (arith, joins)
        | else-skip-gt0+then-join-eq0+in_ok-push+in_ok-push-2 w ↦ (λ i. (w.bytes-is i).items ++ map (λ c'. c'.byte) (cells (w.skip-is i) (here.i + 1) (c.line_after-line.ensures.value i) (drop (here.i + 1) s)))
            ∙ kept_one (λ c'. c'.byte) s here.i here.skip here.line _ _ _ _ here.invariant.bytes (omega arith) (sym w.join_at-join.ensures ∙ w.if-join-eq0.true) (omega arith) refl w.in_ok-push.ensures.items
        | else-skip-gt0+else-join-eq0 w ↦ grind (arith, joins)
      ];
      places = elim c.if-skip-gt0.branch [
        | then-skip-gt0 w ↦ grind (arith, joins)
        | else-skip-gt0+then-join-eq0+in_ok-push+in_ok-push-2 w ↦ (λ i. (w.places-is i).items ++ map (λ c'. c'.place) (cells (w.skip-is i) (here.i + 1) (c.line_after-line.ensures.value i) (drop (here.i + 1) s)))
            ∙ kept_one (λ c'. c'.place) s here.i here.skip here.line _ _ _ _ here.invariant.places (omega arith) (sym w.join_at-join.ensures ∙ w.if-join-eq0.true) (omega arith) refl w.in_ok-push-2.ensures.items
        | else-skip-gt0+else-join-eq0 w ↦ grind (arith, joins)
      ];
    }
