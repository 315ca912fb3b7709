-- E25 and the lines of functions, over the levels that annotations give.
use Rattle.std.specs.Prelude.{ℕ, not, List, [], map, slice_index_or}
use Rattle.cl_tree.specs.declared.tree.Item.{Item}
use Rattle.cl_mean.specs.declared.checked.FnFact.{FnFact}
use Rattle.cl_mean.specs.Source.{no_item}
use Rattle.cl_typing.specs.Rules.{Lines, unless}
use Rattle.cl_levels.specs.declared.uses.Use.{Use}
use Rattle.cl_levels.specs.declared.uses.Use.TheVariants.{Named, Called}
use Rattle.cl_levels.specs.Uses.{each_from}
use Rattle.cl_levels.specs.Levels.{function, object, differs, item_line}
use Rattle.cl_groups.specs.declared.own.Own.{Own}
use Rattle.cl_groups.specs.Own.{own_at}

abbrev pub foreign_by : Own → ℕ → Use → Lines
foreign_by own f (Named k line) = unless (not (differs (own_at own (function f)) (own_at own (object k)))) line
foreign_by own f (Called g roots line) = []

abbrev pub foreign_in : Own → ℕ → List (List Use) → Lines
foreign_in own f bodies = each_from (foreign_by own) f bodies

-- the lines of functions, by the items that define them
abbrev pub function_line : List Item → FnFact → ℕ
function_line items f = item_line (slice_index_or items f.item no_item)

abbrev pub function_lines : List Item → List FnFact → List ℕ
function_lines items fs = map (function_line items) fs
