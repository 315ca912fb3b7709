use Rattle.std.proofs.Common.{◌≡◌, ◌<◌, ◌≤◌, length, sym, subst, arith, if◌then◌else◌, Some, None, bytes_eq}
use Rattle.code_tables.specs.declared.facts.Callee.{Callee}
use Rattle.cl_scope.specs.Table.{place_at}
use Rattle.code_tables.specs.Facts.{first_of}
use Rattle.code_tables.proofs.First.{place_step, place_end}
use Rattle.code_tables.proofs.facts.places.Goals as goal

pub loop-place-preserved : goal.loop-place-preserved
loop-place-preserved c q =
    let h : c.loop-place.place < length c.args.all.now = omega arith in
    place_step c.args.all.now c.index-all-place.result c.loop-place.place (place_at c.loop-place.first q)
    (place_at c.note.new.first q) q _ h c.index-all-place.is
    (subst (λ (f : Callee). place_at c.note.new.first q ≡ first_of (place_at c.loop-place.first q)
    (if bytes_eq f.name.now q then Some c.loop-place.place else None)) (sym c.index-all-place.is) (c.in_ok-note.ensures q))
    (c.loop-place.invariant q)

pub returns : goal.returns
returns c q =
    let h : length c.args.all.now ≤ c.loop-place.place = omega arith in
    place_end c.args.all.now c.loop-place.place (place_at c.loop-place.first q) q _ h (c.loop-place.invariant q)
