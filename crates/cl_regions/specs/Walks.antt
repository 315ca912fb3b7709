-- What the walks over the parts of a file or of a block have noted.
use Rattle.std.specs.Prelude.{◌≡◌, ◌≤◌, ℕ, List, length, drop, reverse}
use Rattle.cl_tree.specs.Words.{Word}
use Rattle.cl_typing.specs.Rules.{Lines}
use Rattle.cl_labelling.specs.Regions.{Part, has_next, bad_regions}
use Rattle.cl_regions.specs.Ahead.{ends_ahead, all_ahead}
use Rattle.cl_regions.specs.Bag.{Holds}
use Rattle.cl_regions.specs.declared.ahead.Ahead.{Ahead}
use Rattle.cl_regions.specs.declared.places.Walk.{Walk}

-- of the parts behind a place, on the way from the last one
pub record IsAhead (ahead : Ahead) (ps : List Part) : Type 0 where
  pub ends : Holds ahead.ends (ends_ahead ps)
  pub next : ahead.has_next ≡ has_next ps
  pub regular : ahead.regular.items ≡ reverse (all_ahead ps)

-- of the regions that are open before some parts, and of these parts
pub record IsAt (walk : Walk) (begun : List Word) (ps : List Part) : Type 0 where
  pub holds : Holds walk.regions begun
  pub ahead : walk.ahead.items ≡ reverse (all_ahead ps)

-- The bad places behind so many of the parts are all.
pub record IsSoFar (walk : Walk) (ps : List Part) (i : ℕ) (whole : Lines) : Type 0 where
  pub begun : List Word
  pub few : length begun ≤ i
  pub here : IsAt walk begun (drop i ps)
  pub rest : bad_regions begun (drop i ps) ≡ whole
