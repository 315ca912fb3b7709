-- The totals behind things that are counted, and the place where one of them goes over.
use Rattle.std.specs.Prelude.{List, [], ◌∷◌}
use Rattle.cl_typing.specs.Rules.{Lines, unless}
use Rattle.cl_typing.specs.declared.totals.Totals.{Totals}
use Rattle.cl_typing.specs.Sizes.{Counted, totals_after, within, line_of}

unfoldable pub after_all : Totals → List Counted → Totals
after_all t [] = t
after_all t (c ∷ cs) = after_all (totals_after t c) cs

-- one thing that is counted
abbrev pub one_over : Totals → Counted → Lines
one_over t c = unless (within (totals_after t c) c) (line_of c)
