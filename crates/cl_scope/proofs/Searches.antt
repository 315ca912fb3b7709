-- Searches in order.
use Rattle.std.proofs.Common.{◌≡◌, ℕ, [], ◌++◌, refl, Result}
use Rattle.cl_typing.specs.Rules.{Lines, Begins}
use Rattle.cl_scope.specs.Finds.{Finds}
use Rattle.cl_scope.specs.declared.stop.Stop.{Stop}

-- a place in the first part
pub begins_front : (a b : Lines) (line : ℕ) → Begins a line → Begins (a ++ b) line
begins_front a b line h = (h.0 ++ b, rw h.1 refl)

-- no place in the first part
pub begins_behind : (a b : Lines) (line : ℕ) → a ≡ [] → Begins b line → Begins (a ++ b) line
begins_behind a b line e h = rw e h

pub none_in_both : (a b : Lines) → a ≡ [] → b ≡ [] → (a ++ b) ≡ []
none_in_both a b e f = rw e f

pub finds_behind : (r : Result (Unit {0}) Stop) (a b : Lines) → a ≡ [] → Finds r b → Finds r (a ++ b)
finds_behind r a b e h = rw e h

pub ruleset searches = (begins_front, begins_behind, none_in_both, finds_behind)
