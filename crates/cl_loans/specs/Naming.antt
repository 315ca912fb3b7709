-- Which functions name objects, themselves or by what they call, as a graph: calls backwards.
use Rattle.std.specs.Prelude.{ℕ, List, [], ◌∷◌}
use Rattle.cl_reach.specs.declared.graph.Edge.{Edge}
use Rattle.cl_reach.specs.declared.propagate.Seed.{Seed}
use Rattle.cl_reach.specs.Reach.{edge, seed}
use Rattle.cl_levels.specs.declared.uses.Use.{Use}
use Rattle.cl_levels.specs.declared.uses.Use.TheVariants.{Named, Called}
use Rattle.cl_levels.specs.Uses.{each_from}

abbrev pub back : ℕ → Use → List Edge
back f (Named k line) = []
back f (Called g roots line) = edge g f ∷ []

abbrev pub laid : ℕ → Use → List Seed
laid f (Named k line) = seed f k ∷ []
laid f (Called g roots line) = []

abbrev pub backs : List (List Use) → List Edge
backs uses = each_from back 0 uses

abbrev pub names : List (List Use) → List Seed
names uses = each_from laid 0 uses
