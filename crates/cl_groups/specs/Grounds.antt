-- What levels are found from.
use Rattle.std.specs.Prelude.{◌≡◌, ◌↔◌, ◌<◌, ◌≤◌, ℕ, List, map, length, Option, Some, None}
use Rattle.cl_base.specs.declared.limits.TheConstants.{FUNCTIONS, OBJECTS, LEVELS}
use Rattle.cl_mean.specs.declared.checked.FnFact.{FnFact}
use Rattle.cl_reach.specs.Reach.{Bears, Carries}
use Rattle.cl_levels.specs.declared.uses.Body.{Body}
use Rattle.cl_levels.specs.Placed.{Places, Holds, IsFirst}
use Rattle.cl_levels.specs.Uses.{uses_of}
use Rattle.cl_levels.specs.Levels.{Annotated, Symbol, function, object, own_level, label_of, IsFree, object_lines}
use Rattle.cl_groups.specs.declared.own.Own.{Own}
use Rattle.cl_groups.specs.Own.{own_at}
use Rattle.cl_groups.specs.Ties.{seeds_of, edges_of}

-- These are the levels that annotations give; each is a level, and each annotated symbol has one.
pub record AreOwn (a : Annotated) (own : Own) : Type 0 where
  pub agree : (x : Symbol) → own_at own x ≡ own_level a x
  pub sure : (x : Symbol) → own_level a x ≡ None → IsFree a x
  pub below : (x : Symbol) (level : ℕ) → own_at own x ≡ Some level → level < LEVELS

-- the levels that nodes bear are those that go along the ties of a program
pub record AreGrounds (a : Annotated) (own : Own) (bodies : List Body) (lines : List ℕ) (carried : List (List ℕ)) : Type 0 where
  pub are_own : AreOwn a own
  pub uses_are : map (λ b. b.uses) bodies ≡ uses_of a.typed
  pub lines_are : lines ≡ object_lines a.typed.program
  pub bears : (level node : ℕ) → Bears carried level node ↔ Carries (seeds_of own 0 (uses_of a.typed)) (edges_of own 0 (uses_of a.typed)) level node
  pub few_functions : length a.typed.functions ≤ FUNCTIONS
  pub few_objects : length a.typed.objects ≤ OBJECTS
  pub all_objects : length lines ≡ length a.typed.objects

-- no place, or the line of the first one
abbrev pub FirstOf : Option ℕ → Places → Type 0
FirstOf None Fails = Holds Fails
FirstOf (Some line) Fails = IsFirst Fails line
