-- What calls lend, and which loans have an alias, by a typed program alone.
use Rattle.std.specs.Prelude.{◌≡◌, ◌⊎◌, ◌<◌, ℕ, Bool, true, false, ◌==◌, List, [], ◌∷◌, Option, Some, slice_get, Contains}
use Rattle.cl_base.specs.declared.limits.TheConstants.{OBJECTS}
use Rattle.cl_mean.specs.declared.checked.Typed.{Typed}
use Rattle.cl_reach.specs.Reach.{Bears}
use Rattle.cl_calls.specs.Signatures.{signatures_in}
use Rattle.cl_levels.specs.declared.uses.Use.{Use}
use Rattle.cl_levels.specs.declared.uses.Use.TheVariants.{Named, Called}
use Rattle.cl_levels.specs.declared.uses.Variable.{Variable}
use Rattle.cl_levels.specs.declared.uses.Variable.TheVariants.{Static, Local}
use Rattle.cl_levels.specs.Levels.{Annotated}
use Rattle.cl_levels.specs.Uses.{each_from}
use Rattle.cl_levels.specs.Crossings.{Loan, LentTwice, array_roots, maybe_root, params_of}
use Rattle.cl_levels.specs.Placed.{Places}

-- a program without labels
abbrev pub alone : Typed → Annotated
alone typed = record { typed = typed; labels = record { levels = []; labels = []; on_functions = []; on_objects = [] } }

abbrev pub lent_if : Bool → Option Variable → List Variable
lent_if true root = maybe_root root
lent_if false root = []

abbrev pub same : Variable → Variable → Bool
same (Static j) (Static k) = j == k
same (Local j) (Local k) = j == k
same _ _ = false

-- what a call of a function lends to it
abbrev pub lent_by : Typed → ℕ → List (Option Variable) → List Variable
lent_by typed g roots = array_roots (params_of (signatures_in typed g)) roots

abbrev pub loan_by : Typed → Use → List Loan
loan_by typed (Named k line) = []
loan_by typed (Called g roots line) = record { callee = g; lent = lent_by typed g roots; line = line } ∷ []

abbrev pub loans_in : Typed → List (List Use) → List Loan
loans_in typed uses = each_from (λ f. loan_by typed) 0 uses

-- by what is carried back along calls: a function, or one that is reached from it by calls, names an object
abbrev pub IsNamed : List (List ℕ) → ℕ → ℕ → Type 0
IsNamed carried f k = (k < OBJECTS) × Bears carried k f

abbrev pub NamesIt : List (List ℕ) → ℕ → Variable → Type 0
NamesIt carried f (Static k) = IsNamed carried f k
NamesIt carried f (Local k) = ⊥

abbrev pub NamesOne : List (List ℕ) → ℕ → List Variable → Type 0
NamesOne carried f lent = (v : Variable) × (Contains lent v × NamesIt carried f v)

abbrev pub HasAlias : List (List ℕ) → ℕ → List Variable → Type 0
HasAlias carried f lent = LentTwice lent ⊎ NamesOne carried f lent

abbrev pub Clashes : List (List ℕ) → Loan → Type 0
Clashes carried loan = HasAlias carried loan.callee loan.lent

-- the places of those loans of a list for which something holds
abbrev pub PlacesOf : (Loan → Type 0) → List Loan → Places
PlacesOf P loans position line = (loan : Loan) × ((slice_get loans position ≡ Some loan) × ((loan.line ≡ line) × P loan))
