-- A program with its labels and levels.
use Rattle.cl_mean.specs.declared.checked.Typed.{Typed}
use Rattle.cl_mean.specs.declared.checked.Levels.{Levels}
use Rattle.cl_mean.specs.declared.labels.LabelTable.{LabelTable}
use Rattle.cl_levels.specs.Crossings.{Levelled}

-- a typed program with its labels and levels
abbrev pub levelled : Typed → LabelTable → Levels → Levelled
levelled typed labels levels = record { annotated = record { typed = typed; labels = labels }; levels = levels }
