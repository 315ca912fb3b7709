-- What the reader answers.
use Rattle.std.specs.Prelude.{◌≡◌, List, [], ◌∷◌, Result, Ok, Err}
use Rattle.cl_tree.specs.declared.token.Token.{Token}
use Rattle.cl_tree.specs.declared.grammar.Terminal.{Terminal}
use Rattle.cl_tree.specs.declared.tree.Item.{Item}
use Rattle.cl_tree.specs.declared.tree.Program.{Program}
use Rattle.cl_tree.specs.Runs.{terminals}
use Rattle.cl_tree.specs.Items.{cut}
use Rattle.cl_tree.specs.Reading.{IsItem, IsUnread, line_of, IsFirstUnread, WithinLimits, ParseFails}
use Rattle.cl_parse.specs.declared.stop.ParseStop.{ParseStop}
use Rattle.cl_parse.specs.declared.stop.ParseStop.TheVariants.{Rule, NoMemory}

-- a refusal names a rule that fails, and its line
abbrev pub IsFailure : List Token → ParseStop → Type 0
IsFailure tokens (Rule rule line) = ParseFails tokens rule line
IsFailure tokens NoMemory = Unit {0}

-- the one item that the terminals are
pub record IsOneItem (ps : List Terminal) (i : Item) : Type 0 where
  pub is_item : IsItem ps i
  pub only : (j : Item) → IsItem ps j → i ≡ j

abbrev pub AreOneItems : List (List Terminal) → List Item → Type 0
AreOneItems [] [] = Unit {0}
AreOneItems (ps ∷ pss) (i ∷ is) = IsOneItem ps i × AreOneItems pss is
AreOneItems _ _ = ⊥

-- what reading all of the terminals as one item answers
abbrev pub ItemAnswer : List Terminal → Result Item ParseStop → Type 0
ItemAnswer ps (Ok i) = IsOneItem ps i
ItemAnswer ps (Err (Rule rule line)) = (rule ≡ 6) × (IsUnread ps × (line_of ps ≡ line))
ItemAnswer ps (Err NoMemory) = Unit {0}

-- what reading one item after the other answers
abbrev pub ItemsAnswer : List (List Terminal) → Result (List Item) ParseStop → Type 0
ItemsAnswer pss (Ok is) = AreOneItems pss is
ItemsAnswer pss (Err (Rule rule line)) = (rule ≡ 6) × IsFirstUnread pss line
ItemsAnswer pss (Err NoMemory) = Unit {0}

abbrev pub ProgramAnswer : List Token → Result Program ParseStop → Type 0
ProgramAnswer tokens (Ok p) = WithinLimits tokens × AreOneItems (cut (terminals tokens)) p.items
ProgramAnswer tokens (Err e) = IsFailure tokens e
