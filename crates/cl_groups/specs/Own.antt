-- The levels that annotations give.
use Rattle.std.specs.Prelude.{ℕ, List, Option, Some, None, option_map, slice_index_or}
use Rattle.cl_mean.specs.declared.labels.LabelFact.{LabelFact}
use Rattle.cl_mean.specs.Source.{label_at}
use Rattle.cl_levels.specs.Levels.{Symbol, function, object}
use Rattle.cl_groups.specs.declared.own.Own.{Own}

-- the level of a label, if it is one
abbrev pub own_of : List LabelFact → Option ℕ → Option ℕ
own_of labels label = option_map (λ l. l.level) (label_at labels label)

abbrev pub own_at : Own → Symbol → Option ℕ
own_at own (function k) = slice_index_or own.functions k None
own_at own (object k) = slice_index_or own.objects k None
