use Rattle.std.proofs.Common.{◌≡◌, ◌+◌, ℕ, length, slice_index_or, refl, sym, subst, arith}
use Rattle.cl_groups.specs.Marks.{Conflict, IsLeast}
use Rattle.cl_groups.proofs.Borne.{one_noted}
use Rattle.cl_groups.proofs.conflicts.first_conflict.Goals as goal

pub loop-k-preserved : goal.loop-k-preserved
loop-k-preserved c =
    subst (λ first. IsLeast (Conflict c.args.carried.now c.args.own.now c.args.lines.now c.args.odd (c.loop-k.k + 1)) first) (sym c.noted-first.ensures)
    (one_noted c.args.carried.now c.args.own.now c.args.lines.now c.args.odd c.loop-k.first c.conflicts.result c.loop-k.k (slice_index_or c.args.lines.now c.loop-k.k 0) refl
    c.conflicts.ensures.free c.conflicts.ensures.two c.conflicts.ensures.one c.loop-k.invariant)

pub returns : goal.returns
returns c =
    let e : c.loop-k.k ≡ length c.args.lines.now = omega arith in
    subst (λ (n : ℕ). IsLeast (Conflict c.args.carried.now c.args.own.now c.args.lines.now c.args.odd n) c.loop-k.first) e c.loop-k.invariant
