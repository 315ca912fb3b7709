-- What a search for the first place of a rule answers.
use Rattle.std.specs.Prelude.{◌≡◌, [], Result, Ok, Err}
use Rattle.cl_typing.specs.Rules.{Lines, Begins}
use Rattle.cl_scope.specs.declared.stop.Stop.{Stop}
use Rattle.cl_scope.specs.declared.stop.Stop.TheVariants.{At, NoMemory}

-- No place, the first one's line, or nothing where memory ran out.
abbrev pub Finds : Result (Unit {0}) Stop → Lines → Type 0
Finds (Ok x) places = places ≡ []
Finds (Err (At line)) places = Begins places line
Finds (Err NoMemory) places = Unit {0}
