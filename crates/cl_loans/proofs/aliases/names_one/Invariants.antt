use Rattle.std.proofs.Common.{drop}
use Rattle.cl_loans.specs.Loans.{NamesOne}
use Rattle.cl_loans.proofs.aliases.names_one.Given as goal

abbrev pub invariant-loop-variable : goal.invariant-loop-variable
invariant-loop-variable l = NamesOne l.named l.f l.lent → NamesOne l.named l.f (drop l.variable-index l.lent)
