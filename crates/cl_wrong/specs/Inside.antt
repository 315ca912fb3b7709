-- What is the same in all of a function, as the definition has it.
use Rattle.cl_typing.specs.Wrong as wrong
use Rattle.cl_wrong.specs.declared.stmts.Inside.{Inside}

abbrev pub inside_of : Inside → wrong.Inside
inside_of inside = record { tags = inside.tags.now; result = inside.result.now }
