-- What a search for the first place of a rule answers that brings something back.
use Rattle.std.specs.Prelude.{◌≡◌, List, [], Result, Ok, Err}
use Rattle.cl_tree.specs.Words.{Word}
use Rattle.cl_typing.specs.Rules.{Lines, Begins}
use Rattle.cl_scope.specs.declared.stop.Stop.{Stop}
use Rattle.cl_scope.specs.declared.stop.Stop.TheVariants.{At, NoMemory}
use Rattle.cl_scope.specs.declared.latest.Latest.{Latest}
use Rattle.cl_scope.specs.Table.{place_at}
use Rattle.cle_names.specs.Walked.{place_of}

-- No place, the first one's line, or nothing where memory ran out.
abbrev pub FindsPlace : {A : Type 0} → Result A Stop → Lines → Type 0
FindsPlace (Ok x) places = places ≡ []
FindsPlace (Err (At line)) places = Begins places line
FindsPlace (Err NoMemory) places = Unit {0}

-- A map holds the place of each word of a list.
abbrev pub IsNumbered : List Word → Latest → Type 0
IsNumbered words known = (q : Word) → place_at known q ≡ place_of words q
