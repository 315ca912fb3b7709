use Rattle.std.proofs.Common.{◌≡◌, List}
use Rattle.cl_labelling.specs.Regions.{Marked}
use Rattle.cl_regions.specs.Marks.{all_kept, kept_all}
use Rattle.cl_regions.specs.Chosen.{AreOne}
use Rattle.cl_regions.proofs.twice.two_labels.Given as goal

abbrev pub invariant-loop-m : goal.invariant-loop-m
invariant-loop-m l = (all : List Marked) → kept_all l.marks ≡ all_kept all → AreOne l.chosen all l.m-index
