use Rattle.std.proofs.Common.{[], ◌++◌, map}
use Rattle.cl_labelling.specs.Regions.{stmt_part, marked_in}
use Rattle.cl_regions.specs.Marks.{all_kept, kept_all, AreMarked}
use Rattle.cl_regions.proofs.marks.+stmt.Given as goal

abbrev pub invariant-mark_all-loop-s : goal.invariant-mark_all-loop-s
invariant-mark_all-loop-s l = AreMarked l.around l.marks.items (map stmt_part l.all) l.s-index
    (kept_all l.initial.marks.items ++ all_kept (marked_in [] [] (map stmt_part l.all)))
