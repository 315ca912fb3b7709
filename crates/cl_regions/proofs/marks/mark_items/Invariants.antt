use Rattle.std.proofs.Common.{[], ◌++◌, map}
use Rattle.cl_labelling.specs.Regions.{item_part, marked_in}
use Rattle.cl_regions.specs.Marks.{all_kept, kept_all, AreMarked}
use Rattle.cl_regions.proofs.marks.mark_items.Given as goal

abbrev pub invariant-loop-item : goal.invariant-loop-item
invariant-loop-item l = AreMarked l.around l.marks.items (map item_part l.items) l.item-index
    (kept_all l.initial.marks.items ++ all_kept (marked_in [] [] (map item_part l.items)))
