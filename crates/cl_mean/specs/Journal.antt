-- Frames: what crosses, as bytes. A frame is a header and a payload, all numbers big endian. The journal is the frames of what crossed.
use Rattle.std.specs.Prelude.{ℕ, zero, suc, ◌+◌, ◌*◌, ◌/◌, ◌%◌, Bool, true, false, ◌&&◌, ◌==◌, ℤ, pos, List, [], ◌∷◌, ◌++◌, map, length, nat_lt, drop, Option, Some, None, if◌then◌else◌, bytes_eq}
use Rattle.byteorder.specs.Endian.{big_bytes, big_from, big_number}
use Rattle.cl_tree.specs.declared.kinds.IntKind.{IntKind}
use Rattle.cl_tree.specs.Arithmetic.{value, residue}
use Rattle.cl_mean.specs.declared.checked.GedlRow.{GedlRow}
use Rattle.cl_mean.specs.Value.{Labelled}
use Rattle.cl_mean.specs.Shape.{size_of, kinds_of}
use Rattle.cl_mean.specs.Source.{Definition, Source, function_at, payload_of}
use Rattle.cl_mean.specs.Guarded.{Content, holds, blocked, broken, Crossing}

-- ---- frames

-- what a frame says: that the whole run is over, or the request or reply of a call by a row
pub data Said : Type 0 where
  says_stop : Said
  message : ℕ → Bool → Content ℤ → Said

pub record Frame : Type 0 where
  pub turn : ℕ
  pub said : Said

abbrev pub frame : ℕ → Said → Frame
frame turn said = record { turn = turn; said = said }

-- ---- payloads

-- the numbers of a payload, each in the width of its kind
unfoldable pub payload_bytes : List IntKind → List ℤ → List ℕ
payload_bytes [] numbers = []
payload_bytes (k ∷ ks) [] = []
payload_bytes (k ∷ ks) (n ∷ ns) = big_bytes (size_of k) (residue k n) ++ payload_bytes ks ns

-- the numbers that bytes begin with, one of each kind
unfoldable pub payload_numbers : List IntKind → List ℕ → List ℤ
payload_numbers [] bytes = []
payload_numbers (k ∷ ks) bytes = value k (pos (big_number (size_of k) bytes)) ∷ payload_numbers ks (drop (size_of k) bytes)

-- the kinds of the numbers of a row's request or reply
abbrev pub kinds_by : Option Definition → Bool → List IntKind
kinds_by None reply = []
kinds_by (Some d) reply = kinds_of (payload_of d reply)

unfoldable pub kinds_at : Source → List GedlRow → ℕ → Bool → List IntKind
kinds_at source [] k reply = []
kinds_at source (row ∷ rows) zero reply = kinds_by (function_at source.functions row.function) reply
kinds_at source (row ∷ rows) (suc k) reply = kinds_at source rows k reply

-- ---- tags

-- two rows lead from one level to one level
abbrev pub one_pair : GedlRow → GedlRow → ℕ
one_pair a b = if (a.from == b.from) && (a.to == b.to) then 0 else 1

-- The number of a row's pair of levels among the distinct pairs, from 1. The rows of a pair stand together.
unfoldable pub mux_of : List GedlRow → ℕ → ℕ
mux_of [] k = 0
mux_of (row ∷ rows) zero = 1
mux_of (row ∷ []) (suc k) = 0
mux_of (row ∷ next ∷ rows) (suc k) = one_pair row next + mux_of (next ∷ rows) k

-- the tag of a row's request, or of its reply
abbrev pub typ_of : ℕ → Bool → ℕ
typ_of k false = 2 * k + 1
typ_of k true = 2 * k + 2

abbrev pub content_number : {A : Type 0} → Content A → ℕ
content_number (holds xs) = 0
content_number blocked = 1
content_number broken = 2

-- ---- bytes

abbrev pub content_bytes : List IntKind → Content ℤ → List ℕ
content_bytes kinds (holds ns) = payload_bytes kinds ns
content_bytes kinds blocked = []
content_bytes kinds broken = []

-- a header and a payload: mux and sec, which are one number here, typ, turn, kind, the length of the payload, and the payload
unfoldable pub frame_bytes : ℕ → ℕ → ℕ → ℕ → List ℕ → List ℕ
frame_bytes mux typ turn code payload =
    big_bytes 4 mux ++ (big_bytes 4 mux ++ (big_bytes 4 typ ++
    (big_bytes 8 turn ++ (big_bytes 1 code ++ (big_bytes 4 (length payload) ++ payload)))))

abbrev pub said_bytes : Source → ℕ → Said → List ℕ
said_bytes source turn says_stop = frame_bytes 0 0 turn 3 []
said_bytes source turn (message k reply content) =
    frame_bytes (mux_of source.rows k) (typ_of k reply) turn (content_number content)
    (content_bytes (kinds_at source source.rows k reply) content)

-- The bytes of a frame.
unfoldable pub bytes_of : Source → Frame → List ℕ
bytes_of source f = said_bytes source f.turn f.said

-- ---- the reading back

abbrev pub content_in : ℕ → List IntKind → List ℕ → Content ℤ
content_in zero kinds payload = holds (payload_numbers kinds payload)
content_in (suc zero) kinds payload = blocked
content_in (suc (suc n)) kinds payload = broken

abbrev pub message_in : Source → ℕ → Bool → ℕ → List ℕ → Said
message_in source k reply code payload = message k reply (content_in code (kinds_at source source.rows k reply) payload)

abbrev pub said_in : Source → ℕ → ℕ → List ℕ → Said
said_in source zero code payload = says_stop
said_in source (suc n) code payload = message_in source (n / 2) (n % 2 == 1) code payload

-- the frame that the numbers of a header and a payload name
unfoldable pub frame_named : Source → List ℕ → Frame
frame_named source bytes = frame (big_from 12 8 bytes) (said_in source (big_from 8 4 bytes) (big_from 20 1 bytes) (drop 25 bytes))

-- what a frame says is of a row that is there
abbrev pub is_known : Source → Said → Bool
is_known source says_stop = true
is_known source (message k reply content) = nat_lt k (length source.rows)

-- Bytes are read as the frame that they name, if it is of a row that is there and they are just its bytes; all others
-- are no frame.
unfoldable pub frame_in : Source → List ℕ → Option Frame
frame_in source bytes =
    if is_known source (frame_named source bytes).said && bytes_eq (bytes_of source (frame_named source bytes)) bytes
    then Some (frame_named source bytes) else None

-- ---- the journal

abbrev pub numbers_of : List Labelled → List ℤ
numbers_of = map (λ x. x.number)

abbrev pub unlabelled : Content Labelled → Content ℤ
unlabelled (holds xs) = holds (numbers_of xs)
unlabelled blocked = blocked
unlabelled broken = broken

-- the frame of a crossing, at its turn
abbrev pub frame_of : ℕ → Crossing → Frame
frame_of turn c = frame turn (message c.row c.reply (unlabelled c.content))

-- the frames of crossings, from a turn on
unfoldable pub journal_from : Source → ℕ → List Crossing → List ℕ
journal_from source turn [] = []
journal_from source turn (c ∷ cs) = bytes_of source (frame_of turn c) ++ journal_from source (suc turn) cs

-- The journal: the i-th frame has turn i, and the first is 1.
unfoldable pub journal : Source → List Crossing → List ℕ
journal source crossings = journal_from source 1 crossings
