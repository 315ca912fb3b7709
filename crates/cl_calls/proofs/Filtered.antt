-- Calls across levels: one call further, and the rules by what they need of a program.
use Rattle.std.proofs.Common.{◌≡◌, ℕ, suc, ◌+◌, ◌<◌, ◌≤◌, Bool, true, false, List, [], ◌∷◌, ◌++◌, filter, drop, drop-cons, add-one, length, slice_index_or, Some, refl, sym, ap, ◌∙◌}
use Rattle.std.proofs.lemmas.List.{drop_all}
use Rattle.cl_mean.specs.declared.checked.Levels.{Levels}
use Rattle.cl_mean.specs.declared.checked.Typed.{Typed}
use Rattle.cl_mean.specs.declared.labels.Direction.{Direction}
use Rattle.cl_mean.specs.declared.labels.Direction.TheVariants.{Egress, Ingress, Bidirectional}
use Rattle.cl_mean.specs.declared.labels.Entry.{Entry}
use Rattle.cl_mean.specs.declared.labels.LabelTable.{LabelTable}
use Rattle.cl_levels.specs.declared.uses.Call.{Call}
use Rattle.cl_levels.specs.Uses.{uses_of}
use Rattle.cl_levels.specs.Levels.{Annotated}
use Rattle.cl_levels.specs.Crossings.{calls_of, crossings_of, no_entry, wrong_direction, goes_both_ways}
use Rattle.cl_calls.specs.Calls.{levelled, calls_in, crosses, kept_if, both_ways, no_entry_in, wrong_direction_in}

one_kept : (levels : Levels) (c : Call) (cs : List Call) (b : Bool) → b ≡ crosses levels c → filter (crosses levels) (c ∷ cs) ≡ kept_if b c ++ filter (crosses levels) cs
one_kept levels c cs true e = rw (sym e) refl
one_kept levels c cs false e = rw (sym e) refl

pub next_kept : (levels : Levels) (cs : List Call) (i : ℕ) (d : Call) (b : Bool) → i < length cs → b ≡ crosses levels (slice_index_or cs i d)
    → filter (crosses levels) (drop i cs) ≡ kept_if b (slice_index_or cs i d) ++ filter (crosses levels) (drop (i + 1) cs)
next_kept levels cs i d b within e =
    rw (add-one i) (ap (filter (crosses levels)) (drop-cons cs i d within) ∙ one_kept levels (slice_index_or cs i d) (drop (suc i) cs) b e)

pub none_kept : (levels : Levels) (cs : List Call) (i : ℕ) → length cs ≤ i → filter (crosses levels) (drop i cs) ≡ []
none_kept levels cs i past = ap (filter (crosses levels)) (drop_all i cs past)

pub one_way : (e : Entry) → goes_both_ways (Some e) ≡ both_ways e.direction
one_way e = by e.direction refl
  where
    by : (d : Direction) → e.direction ≡ d → goes_both_ways (Some e) ≡ both_ways e.direction
    by Egress h = rw h refl
    by Ingress h = rw h refl
    by Bidirectional h = rw h refl

-- ---- the same of a program

pub calls_are : (a : Annotated) → calls_in (uses_of a.typed) ≡ calls_of a
unfolding calls_of
calls_are a = refl

pub crossings_are : (typed : Typed) (labels : LabelTable) (levels : Levels) (cs : List Call) → cs ≡ calls_in (uses_of typed)
    → filter (crosses levels) cs ≡ crossings_of (levelled typed labels levels)
unfolding calls_of crossings_of
crossings_are typed labels levels cs e = ap (filter (crosses levels)) e

pub no_entry_is : (typed : Typed) (labels : LabelTable) (levels : Levels) (cs : List Call) → cs ≡ crossings_of (levelled typed labels levels)
    → no_entry_in labels levels cs ≡ no_entry (levelled typed labels levels)
unfolding no_entry no_entry_in
no_entry_is typed labels levels cs e = ap (no_entry_in labels levels) e

pub wrong_direction_is : (typed : Typed) (labels : LabelTable) (levels : Levels) (cs : List Call) → cs ≡ crossings_of (levelled typed labels levels)
    → wrong_direction_in labels levels cs ≡ wrong_direction (levelled typed labels levels)
unfolding wrong_direction wrong_direction_in
wrong_direction_is typed labels levels cs e = ap (wrong_direction_in labels levels) e
