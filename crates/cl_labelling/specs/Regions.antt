-- Regions and the labels that pragmas put on items: E14.
use Rattle.std.specs.Prelude.{ℕ, zero, suc, Bool, true, false, List, [], ◌∷◌, ◌++◌, map, length, Option, Some, None, bytes_eq, if◌then◌else◌}
use Rattle.cl_tree.specs.declared.token.Pragma.{Pragma}
use Rattle.cl_tree.specs.declared.token.Pragma.TheVariants as pragma
use Rattle.cl_tree.specs.declared.tree.Declarator.{Declarator}
use Rattle.cl_tree.specs.declared.tree.Stmt.{Stmt, fold-Stmt}
use Rattle.cl_tree.specs.declared.tree.Act.{Act-F}
use Rattle.cl_tree.specs.declared.tree.Act.TheOpen as act
use Rattle.cl_tree.specs.declared.tree.Item.{Item}
use Rattle.cl_tree.specs.declared.tree.Item.TheVariants as item
use Rattle.cl_tree.specs.declared.tree.Program.{Program}
use Rattle.cl_tree.specs.Words.{Word}
use Rattle.cl_typing.specs.Rules.{Lines, unless}
use Rattle.cl_labelling.specs.Names.{has_word}

-- What has labels: so many objects of static duration that one declaration declares, or a declaration of a function.
pub data Subject : Type 0 where
  objects : ℕ → Subject
  function : Word → Subject

-- An item with the line of its first token and the names of the labels that pragmas put on it.
pub record Marked : Type 0 where
  pub subject : Subject
  pub line : ℕ
  pub marks : List Word

abbrev pub marked : Subject → ℕ → List Word → Marked
marked subject line marks = record { subject = subject; line = line; marks = marks }

-- What a part of a file or of a block is to the pragmas beside it: one of them, an item, what the next item may stand
-- behind, or what it may not stand behind.
pub data Role : Type 0 where
  says : Pragma → Role
  is_item : Subject → Role
  passed_over : Role
  bars : Role

-- A part of a file or of a block, with what stands within it: the places where E14 fails, and the items.
pub record Part : Type 0 where
  pub role : Role
  pub line : ℕ
  pub flaws : Lines
  pub inner : List Marked

-- ---- regions of one file or block

-- whether the region that so many others of its name stand in is ended by a part or by what follows it
abbrev pub ended_by : Word → ℕ → Role → (ℕ → Bool) → Bool
ended_by name within (says (pragma.Begin other)) rest = rest (if bytes_eq other name then suc within else within)
ended_by name within (says (pragma.End other)) rest = if bytes_eq other name then closed within else rest within
  where
    closed : ℕ → Bool
    closed zero = true
    closed (suc n) = rest n
ended_by name within _ rest = rest within

-- A region of the name is ended in what follows; so many of the same name were begun in it.
unfoldable pub is_ended : Word → ℕ → List Part → Bool
is_ended name within [] = false
is_ended name within (p ∷ ps) = ended_by name within p.role (λ n. is_ended name n ps)

abbrev pub next_by : Role → Bool → Bool
next_by (is_item subject) rest = true
next_by bars rest = false
next_by _ rest = rest

-- an item follows, with no more than pragmas and what is passed over before it
unfoldable pub has_next : List Part → Bool
has_next [] = false
has_next (p ∷ ps) = next_by p.role (has_next ps)

-- the regions that are open, the last one first, without the last one of a name
unfoldable pub without : List Word → Word → List Word
without [] name = []
without (w ∷ ws) name = if bytes_eq w name then ws else w ∷ without ws name

-- the regions behind a part
abbrev pub open_after : List Word → Role → List Word
open_after begun (says (pragma.Begin name)) = name ∷ begun
open_after begun (says (pragma.End name)) = without begun name
open_after begun _ = begun

-- An `end` has its `begin`, a `begin` its `end`, and a pragma for the next item that item.
abbrev pub is_regular : List Word → List Part → Role → Bool
is_regular begun rest (says (pragma.Begin name)) = is_ended name 0 rest
is_regular begun rest (says (pragma.End name)) = has_word begun name
is_regular begun rest (says (pragma.Next name)) = has_next rest
is_regular begun rest _ = true

-- the places where a region is bad, in parts that follow each other where so many regions are open
unfoldable pub bad_regions : List Word → List Part → Lines
bad_regions begun [] = []
bad_regions begun (p ∷ ps) =
    unless (is_regular begun ps p.role) p.line ++ (p.flaws ++ bad_regions (open_after begun p.role) ps)

-- ---- the labels that are put on items

-- the pragmas that wait for the next item, behind a part
abbrev pub waiting_after : List Word → Role → List Word
waiting_after waiting (says (pragma.Next name)) = name ∷ waiting
waiting_after waiting (says _) = waiting
waiting_after waiting passed_over = waiting
waiting_after waiting _ = []

abbrev pub itself : Role → ℕ → List Word → List Marked
itself (is_item subject) line marks = marked subject line marks ∷ []
itself _ line marks = []

-- The items of parts, each with the pragmas that wait for it and the regions that are open around it.
unfoldable pub marked_in : List Word → List Word → List Part → List Marked
marked_in begun waiting [] = []
marked_in begun waiting (p ∷ ps) =
    itself p.role p.line (waiting ++ begun)
    ++ (p.inner ++ marked_in (open_after begun p.role) (waiting_after waiting p.role) ps)

-- ---- blocks

-- a statement that is one of no block: no pragma reaches it
abbrev pub alone : Part → List Marked
alone p = itself p.role p.line [] ++ p.inner

abbrev pub maybe_flaws : Option Part → Lines
maybe_flaws None = []
maybe_flaws (Some p) = p.flaws

abbrev pub maybe_alone : Option Part → List Marked
maybe_alone None = []
maybe_alone (Some p) = alone p

abbrev pub barring : ℕ → Lines → List Marked → Part
barring line flaws inner = record { role = bars; line = line; flaws = flaws; inner = inner }

abbrev pub if_static : Bool → ℕ → Role
if_static true count = is_item (objects count)
if_static false count = bars

abbrev pub act_part : Act-F (ℕ → Part) Part → ℕ → Part
act_part (act.Block ps) line = barring line (bad_regions [] ps) (marked_in [] [] ps)
act_part (act.If c s other) line = barring line (s.flaws ++ maybe_flaws other) (alone s ++ maybe_alone other)
act_part (act.While c s) line = barring line s.flaws (alone s)
act_part (act.DoWhile s c) line = barring line s.flaws (alone s)
act_part (act.For first test next s) line = barring line s.flaws (alone s)
act_part (act.Declare d) line = record { role = if_static d.is_static (length d.names); line = line; flaws = []; inner = [] }
act_part (act.Cle p) line = record { role = says p; line = line; flaws = []; inner = [] }
act_part _ line = barring line [] []

unfoldable pub stmt_part : Stmt → Part
stmt_part = fold-Stmt (ℕ → Part) Part act_part (λ s. s.node s.line)

-- ---- the file

unfoldable pub body_flaws : Option (List Stmt) → Lines
body_flaws None = []
body_flaws (Some ss) = bad_regions [] (map stmt_part ss)

unfoldable pub body_marked : Option (List Stmt) → List Marked
body_marked None = []
body_marked (Some ss) = marked_in [] [] (map stmt_part ss)

-- the line of a declaration's first token
abbrev pub first_line : List Declarator → ℕ
first_line [] = 0
first_line (d ∷ ds) = d.second

unfoldable pub item_part : Item → Part
item_part (item.Struct name members line) = record { role = passed_over; line = line; flaws = []; inner = [] }
item_part (item.Variables d) =
    record { role = is_item (objects (length d.names)); line = first_line d.names; flaws = []; inner = [] }
item_part (item.Function is_static result name void_word params body line second) =
    record { role = is_item (function name); line = line; flaws = body_flaws body; inner = body_marked body }
item_part (item.Cle p line) = record { role = says p; line = line; flaws = []; inner = [] }

unfoldable pub bad_region : Program → Lines
bad_region program = bad_regions [] (map item_part program.items)

-- all items of a program, in the order of the source
unfoldable pub marked_of : Program → List Marked
marked_of program = marked_in [] [] (map item_part program.items)
