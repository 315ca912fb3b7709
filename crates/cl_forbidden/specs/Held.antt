-- What a type's second line is the line of.
use Rattle.cl_tree.specs.Spelling as spelling
use Rattle.cl_forbidden.specs.declared.exprs.Holder.{Holder}
use Rattle.cl_forbidden.specs.declared.exprs.Holder.TheVariants.{Star, Floating, Other}

abbrev pub holder_of : Holder → spelling.Holder
holder_of Star = spelling.star
holder_of Floating = spelling.floating
holder_of Other = spelling.other
