-- The router passes the frames that a run sends.
use Rattle.std.proofs.Common.{◌≡◌, ℕ, ◌+◌, ◌-◌, ◌≤◌, ◌<◌, ◌⊎◌, List, [], ◌∷◌, ◌++◌, length, take, drop, Some, Result, Ok, false, true, refl, ap, sym, ◌∙◌, arith, slice_get, ℤ, inl, inr}
use Rattle.std.proofs.lemmas.List.{append-nil}
use Rattle.rpc_codec.specs.declared.frame.Header.{Header}
use Rattle.rpc_codec.specs.declared.frame.TheConstants.{VALUES, BROKEN, STOP}
use Rattle.rpc_codec.specs.Frames.{header_bytes}
use Rattle.cl_mean.specs.declared.checked.Checked.{Checked}
use Rattle.cl_mean.specs.declared.checked.GedlRow.{GedlRow}
use Rattle.cl_mean.specs.Journal.{mux_of, payload_bytes}
use Rattle.cl_mean.specs.LocalRun.{is_fitting}
use Rattle.cl_mean.specs.Shape.{total_size}
use Rattle.cl_tree.specs.declared.kinds.IntKind.{IntKind}
use Rattle.cl_tree.specs.declared.kinds.IntKind.TheVariants.{I32}
use Rattle.cl_tree.specs.Arithmetic.{fits}
use Rattle.hal_route.specs.declared.channel.Channel.{Channel}
use Rattle.hal_route.specs.declared.uplink.BadUplink.{BadUplink}
use Rattle.hal_route.specs.declared.uplink.Passed.{Passed}
use Rattle.hal_route.specs.declared.uplink.Passed.TheVariants.{Stop}
use Rattle.hal_route.specs.Hal.{State, channel_of, channels_of, least_room, room_of}
use Rattle.hal_route.specs.Passing.{GoesTo, IsNext, IsReply, IsRequest, IsStop, reply_length}
use Rattle.hal_route.specs.Take.{IsTaken}
use Rattle.cl_run.specs.Runs.{IsServed}
use Rattle.cl_run.specs.Steps.{IsReady, header_of, int_payload}
use Rattle.cl_run.proofs.Rows.{TheRow, the_row}

-- the laws of the router that say so
abbrev pub RequestPasses : Type 0
RequestPasses = (hal hal' : State) (from : ℕ) (frame payload : List ℕ) (outcome : Result Passed BadUplink) (h : Header) (k : ℕ) (c : Channel) → IsTaken hal from frame outcome hal' → IsRequest hal from h k c → IsNext hal frame payload h c.request → least_room ≤ room_of hal → GoesTo hal frame c.to outcome hal'

abbrev pub ReplyPasses : Type 0
ReplyPasses = (hal hal' : State) (from : ℕ) (frame payload : List ℕ) (outcome : Result Passed BadUplink) (h : Header) (k : ℕ) (c : Channel) → IsTaken hal from frame outcome hal' → IsReply hal from h k c → (h.kind ≡ VALUES) ⊎ (h.kind ≡ BROKEN) → IsNext hal frame payload h (reply_length h.kind c) → least_room ≤ room_of hal → GoesTo hal frame c.from outcome hal'

abbrev pub StopPasses : Type 0
StopPasses = (hal hal' : State) (from : ℕ) (frame payload : List ℕ) (outcome : Result Passed BadUplink) (h : Header) → IsTaken hal from frame outcome hal' → IsStop hal from h → h.kind ≡ STOP → IsNext hal frame payload h 0 → (outcome ≡ Ok Stop) × (hal' ≡ hal)

one_channel : (row : GedlRow) → channels_of (row ∷ []) ≡ channel_of row 1 ∷ []
unfolding channels_of mux_of
one_channel row = refl

channels_are : (checked : Checked) (k : ℕ) (row : GedlRow) (hal : State) → TheRow checked k row → IsReady checked hal → hal.channels ≡ channel_of row 1 ∷ []
channels_are checked k row hal the ready = ready.channels ∙ ap channels_of the.rows ∙ one_channel row

channel_at : (checked : Checked) (k : ℕ) (row : GedlRow) (hal : State) → TheRow checked k row → IsReady checked hal → slice_get hal.channels k ≡ Some (channel_of row 1)
channel_at checked k row hal the ready = rw (channels_are checked k row hal the ready, the.number) refl

roomy : (checked : Checked) (k : ℕ) (row : GedlRow) (hal : State) → TheRow checked k row → IsReady checked hal → least_room ≤ room_of hal
roomy checked k row hal the ready = rw (channels_are checked k row hal the ready) (let r = ready.room in omega arith)

-- a request goes to the callee
pub request_goes : RequestPasses → (checked : Checked) (k : ℕ) (row : GedlRow) (hal hal' : State) (frame : List ℕ) (outcome : Result Passed BadUplink) → IsServed checked → slice_get checked.gedl.rows k ≡ Some row → IsReady checked hal → IsTaken hal row.from frame outcome hal' → frame ≡ header_bytes (header_of hal k false VALUES 0) → GoesTo hal frame row.to outcome hal'
request_goes law checked k row hal hal' frame outcome served at ready taken bytes =
    let the = the_row checked k row served at in
    law hal hal' row.from frame [] outcome (header_of hal k false VALUES 0) k (channel_of row 1) taken
    (record { row = channel_at checked k row hal the ready; caller = refl; mux = refl; sec = refl; typ = refl; kind = refl })
    (record { bytes = bytes ∙ sym (append-nil _); fields = record { mux = omega arith; sec = omega arith; typ = (let n = the.number in omega arith); turn = (let r = ready.room in let f = ready.frames in omega arith); kind = omega arith; length = omega arith }; turn = refl; rest = sym the.is.request; length = sym the.is.request })
    (roomy checked k row hal the ready)

reply_goes : ReplyPasses → (checked : Checked) (k : ℕ) (row : GedlRow) (hal hal' : State) (frame payload : List ℕ) (outcome : Result Passed BadUplink) (kind : ℕ) → TheRow checked k row → IsReady checked hal → (kind ≡ VALUES) ⊎ (kind ≡ BROKEN) → kind < 3 → length payload ≤ 4 → length payload ≡ reply_length kind (channel_of row 1) → IsTaken hal row.to frame outcome hal' → frame ≡ header_bytes (header_of hal k true kind (length payload)) ++ payload → GoesTo hal frame row.from outcome hal'
reply_goes law checked k row hal hal' frame payload outcome kind the ready kinds small short due taken bytes =
    law hal hal' row.to frame payload outcome (header_of hal k true kind (length payload)) k (channel_of row 1) taken
    (record { row = channel_at checked k row hal the ready; callee = refl; mux = refl; sec = refl; typ = refl })
    kinds
    (record { bytes = bytes; fields = record { mux = omega arith; sec = omega arith; typ = (let n = the.number in omega arith); turn = (let r = ready.room in let f = ready.frames in omega arith); kind = omega arith; length = omega arith }; turn = refl; rest = due; length = due })
    (roomy checked k row hal the ready)

-- a reply with a number goes to the caller
pub number_goes : ReplyPasses → (checked : Checked) (k : ℕ) (row : GedlRow) (hal hal' : State) (frame payload : List ℕ) (outcome : Result Passed BadUplink) → IsServed checked → slice_get checked.gedl.rows k ≡ Some row → IsReady checked hal → length payload ≡ 4 → IsTaken hal row.to frame outcome hal' → frame ≡ header_bytes (header_of hal k true VALUES 4) ++ payload → GoesTo hal frame row.from outcome hal'
number_goes law checked k row hal hal' frame payload outcome served at ready long taken bytes =
    let the = the_row checked k row served at in
    reply_goes law checked k row hal hal' frame payload outcome VALUES the ready (inl refl) (omega arith) (omega arith) (long ∙ sym the.is.reply) taken (rw long bytes)

-- a broken reply goes to the caller
pub broken_goes : ReplyPasses → (checked : Checked) (k : ℕ) (row : GedlRow) (hal hal' : State) (frame : List ℕ) (outcome : Result Passed BadUplink) → IsServed checked → slice_get checked.gedl.rows k ≡ Some row → IsReady checked hal → IsTaken hal row.to frame outcome hal' → frame ≡ header_bytes (header_of hal k true BROKEN 0) → GoesTo hal frame row.from outcome hal'
broken_goes law checked k row hal hal' frame outcome served at ready taken bytes =
    let the = the_row checked k row served at in
    reply_goes law checked k row hal hal' frame [] outcome BROKEN the ready (inr refl) (omega arith) (omega arith) refl taken (bytes ∙ sym (append-nil _))

-- the stop frame ends the run
pub stop_goes : StopPasses → (checked : Checked) (hal hal' : State) (frame : List ℕ) (outcome : Result Passed BadUplink) (h : Header) → IsReady checked hal → h ≡ record { mux = 0; sec = 0; typ = 0; turn = hal.frames + 1; kind = STOP; length = 0 } → IsTaken hal checked.gedl.main frame outcome hal' → frame ≡ header_bytes h → (outcome ≡ Ok Stop) × (hal' ≡ hal)
stop_goes law checked hal hal' frame outcome h ready is taken bytes =
    law hal hal' checked.gedl.main frame [] outcome (record { mux = 0; sec = 0; typ = 0; turn = hal.frames + 1; kind = STOP; length = 0 }) taken
    (record { main = sym ready.main; mux = refl; sec = refl; typ = refl })
    refl
    (record { bytes = bytes ∙ ap header_bytes is ∙ sym (append-nil _); fields = record { mux = omega arith; sec = omega arith; typ = omega arith; turn = (let r = ready.room in let f = ready.frames in omega arith); kind = omega arith; length = omega arith }; turn = refl; rest = refl; length = refl })

pub number_long : (n : ℤ) → length (int_payload n) ≡ 4
unfolding int_payload payload_bytes
number_long n = refl

-- what stands behind a header
pub payload_is : (bytes : List ℕ) (h : Header) (n : ℤ) → bytes ≡ header_bytes h ++ int_payload n → take (length bytes - 25) (drop 25 bytes) ≡ int_payload n
unfolding header_bytes int_payload payload_bytes
payload_is bytes h n is = rw is refl

-- a layout of one `int`, and its payload
pub int_payload_is : (layout : List IntKind) (n : ℤ) → layout ≡ I32 ∷ [] → payload_bytes layout (n ∷ []) ≡ int_payload n
unfolding int_payload
int_payload_is layout n is = ap (λ (kinds : List IntKind). payload_bytes kinds (n ∷ [])) is

pub int_fits : (layout : List IntKind) (n : ℤ) → layout ≡ I32 ∷ [] → fits I32 n ≡ true → is_fitting layout (n ∷ []) ≡ true
int_fits layout n is e = rw (is, e) refl

pub int_size : (layout : List IntKind) → layout ≡ I32 ∷ [] → total_size layout ≡ 4
int_size layout is = ap total_size is
