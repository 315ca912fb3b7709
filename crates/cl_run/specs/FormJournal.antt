-- The bytes of what crossed in the two small forms.
use Rattle.std.specs.Prelude.{ℕ, zero, suc, Bool, true, false, List, [], ◌∷◌, ◌++◌}
use Rattle.std.specs.List.{flat_map}
use Rattle.cl_tree.specs.declared.kinds.IntKind.{IntKind}
use Rattle.cl_tree.specs.declared.tree.CType.{CType, CType-F, out-CType}
use Rattle.cl_tree.specs.declared.tree.CType.TheOpen as ctype
use Rattle.cl_mean.specs.declared.checked.GedlRow.{GedlRow}
use Rattle.cl_mean.specs.Journal.{frame_bytes, mux_of, payload_bytes, typ_of}
use Rattle.cl_run.specs.declared.crossing.Content.{Content}
use Rattle.cl_run.specs.declared.crossing.Content.TheVariants.{Values, Blocked, Broken}
use Rattle.cl_run.specs.declared.crossing.Crossing.{Crossing}

-- the kinds of a type's numbers; structs and arrays come with their stage
abbrev pub level_kinds : {A : Type 0} → CType-F A → List IntKind
level_kinds (ctype.Integer kind) = kind ∷ []
level_kinds _ = []

unfoldable pub kinds_of : CType → List IntKind
kinds_of t = level_kinds (out-CType t)

-- the kinds of a request's numbers, or of a reply's
abbrev pub payload_kinds : GedlRow → Bool → List IntKind
payload_kinds row false = flat_map (λ a. kinds_of a.ctype) row.args
payload_kinds row true = kinds_of row.result

-- the kinds of the numbers of a row's request or reply, by the row's number
unfoldable pub kinds_at : List GedlRow → ℕ → Bool → List IntKind
kinds_at [] k reply = []
kinds_at (row ∷ rows) zero reply = payload_kinds row reply
kinds_at (row ∷ rows) (suc k) reply = kinds_at rows k reply

abbrev pub kind_number : Content → ℕ
kind_number (Values numbers) = 0
kind_number Blocked = 1
kind_number Broken = 2

abbrev pub content_bytes : List IntKind → Content → List ℕ
content_bytes kinds (Values numbers) = payload_bytes kinds numbers
content_bytes kinds Blocked = []
content_bytes kinds Broken = []

-- the frame of a crossing, at its turn
abbrev pub frame_of : List GedlRow → ℕ → Crossing → List ℕ
frame_of rows turn c = frame_bytes (mux_of rows c.row) (typ_of c.row c.reply) turn (kind_number c.content) (content_bytes (kinds_at rows c.row c.reply) c.content)

-- the frames of crossings, from a turn on
unfoldable pub journal_from : List GedlRow → ℕ → List Crossing → List ℕ
journal_from rows turn [] = []
journal_from rows turn (c ∷ cs) = frame_of rows turn c ++ journal_from rows (suc turn) cs

-- The journal: the i-th frame has turn i, and the first is 1.
unfoldable pub journal : List GedlRow → List Crossing → List ℕ
journal rows crossings = journal_from rows 1 crossings
