-- What tokens read as, and where they read as nothing.
use Rattle.std.specs.Prelude.{◌≡◌, ◌⊎◌, ℕ, List, [], ◌∷◌, Option, Some, None, true}
use Rattle.cl_tree.specs.declared.token.Token.{Token}
use Rattle.cl_tree.specs.declared.grammar.Terminal.{Terminal}
use Rattle.cl_tree.specs.declared.tree.Item.{Item}
use Rattle.cl_tree.specs.declared.tree.Program.{Program}
use Rattle.cl_tree.specs.Runs.{terminals}
use Rattle.cl_tree.specs.Spelling.{Reads}
use Rattle.cl_tree.specs.Items.{is_well_formed, item_spelling, cut}
use Rattle.cl_tree.specs.Limits.{limit_passed}

-- All of the terminals are the spelling of a well-formed item, with the lines that it keeps.
pub record IsItem (ps : List Terminal) (i : Item) : Type 0 where
  pub well_formed : is_well_formed i ≡ true
  pub reads : Reads (item_spelling i) ps []

abbrev pub AreItems : List (List Terminal) → List Item → Type 0
AreItems [] [] = Unit {0}
AreItems (ps ∷ pss) (i ∷ is) = IsItem ps i × AreItems pss is
AreItems _ _ = ⊥

-- The tokens read as the program: cut into items, each is the spelling of the program's item in its place.
abbrev pub ReadsAs : List Token → Program → Type 0
ReadsAs tokens program = AreItems (cut (terminals tokens)) program.items

-- the line of the first token that passes a limit
unfoldable pub passed_at : List Token → Option ℕ
passed_at tokens = limit_passed (terminals tokens)

abbrev pub WithinLimits : List Token → Type 0
WithinLimits tokens = passed_at tokens ≡ None

abbrev pub IsUnread : List Terminal → Type 0
IsUnread ps = (i : Item) → IsItem ps i → ⊥

abbrev pub line_of : List Terminal → ℕ
line_of [] = 0
line_of (p ∷ ps) = p.line

-- the line where the first item begins that has no reading
abbrev pub IsFirstUnread : List (List Terminal) → ℕ → Type 0
IsFirstUnread [] line = ⊥
IsFirstUnread (ps ∷ pss) line = (IsUnread ps × (line_of ps ≡ line)) ⊎ (((i : Item) × IsItem ps i) × IsFirstUnread pss line)

-- The tokens keep the limits and read as a program.
abbrev pub HasProgram : List Token → Type 0
HasProgram tokens = (program : Program) × WithinLimits tokens × ReadsAs tokens program

-- The rule that fails, and its line: E23 for a limit, else E06 for an item without a reading.
abbrev pub ParseFails : List Token → ℕ → ℕ → Type 0
ParseFails tokens rule line = ((rule ≡ 23) × (passed_at tokens ≡ Some line)) ⊎ ((rule ≡ 6) × (WithinLimits tokens × IsFirstUnread (cut (terminals tokens)) line))

abbrev pub HasFailure : List Token → Type 0
HasFailure tokens = (rule : ℕ) × (line : ℕ) × ParseFails tokens rule line
