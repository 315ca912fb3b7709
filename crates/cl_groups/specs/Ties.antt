-- Ties as the edges of a graph, and the levels of annotated symbols as its seeds.
use Rattle.std.specs.Prelude.{ℕ, ◌*◌, ◌+◌, ◌<◌, Bool, true, false, ◌&&◌, List, [], ◌∷◌, ◌++◌, Option, Some, None, is_none}
use Rattle.cl_base.specs.declared.limits.TheConstants.{FUNCTIONS, OBJECTS}
use Rattle.cl_levels.specs.declared.uses.Use.{Use}
use Rattle.cl_levels.specs.declared.uses.Use.TheVariants.{Named, Called}
use Rattle.cl_levels.specs.Levels.{Symbol, function, object}
use Rattle.cl_levels.specs.Uses.{each_from}
use Rattle.cl_reach.specs.declared.graph.Edge.{Edge}
use Rattle.cl_reach.specs.declared.propagate.Seed.{Seed}
use Rattle.cl_reach.specs.Reach.{edge, seed}
use Rattle.cl_groups.specs.declared.own.Own.{Own}
use Rattle.cl_groups.specs.Own.{own_at}

-- Functions have the even nodes, objects the odd ones.
abbrev pub node : Symbol → ℕ
node (function k) = 2 * k
node (object k) = 2 * k + 1

abbrev pub is_free : Own → Symbol → Bool
is_free own x = is_none (own_at own x)

-- a tie leads both ways
abbrev pub both : Bool → ℕ → ℕ → List Edge
both true a b = edge a b ∷ edge b a ∷ []
both false a b = []

-- a level comes to an unannotated symbol
abbrev pub lay : Option ℕ → Bool → ℕ → List Seed
lay (Some level) true n = seed n level ∷ []
lay _ _ n = []

abbrev pub join : Own → Symbol → Symbol → List Edge
join own x y = both (is_free own x && is_free own y) (node x) (node y)

abbrev pub lead : Own → Symbol → Symbol → List Seed
lead own x y = lay (own_at own x) (is_free own y) (node y)

abbrev pub use_edges : Own → ℕ → Use → List Edge
use_edges own f (Named k line) = join own (function f) (object k)
use_edges own f (Called g roots line) = join own (function f) (function g)

-- An annotated function that is called isn't tied to its caller.
abbrev pub use_seeds : Own → ℕ → Use → List Seed
use_seeds own f (Named k line) = lead own (function f) (object k) ++ lead own (object k) (function f)
use_seeds own f (Called g roots line) = lead own (function f) (function g)

abbrev pub edges_of : Own → ℕ → List (List Use) → List Edge
edges_of own f bodies = each_from (use_edges own) f bodies

abbrev pub seeds_of : Own → ℕ → List (List Use) → List Seed
seeds_of own f bodies = each_from (use_seeds own) f bodies

-- what a use speaks of is within the limits of a program
abbrev pub IsBelow : Use → Type 0
IsBelow (Named k line) = k < OBJECTS
IsBelow (Called g roots line) = g < FUNCTIONS
