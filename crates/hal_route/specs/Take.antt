-- Which frames a router takes, and what it answers.
use Rattle.std.specs.Prelude.{◌≡◌, ℕ, ◌+◌, ◌-◌, ◌/◌, ◌%◌, ◌==◌, Bool, true, false, ◌&&◌, ◌||◌, nat_le, List, [], ◌∷◌, length, slice_get, Option, Some, None, is_some, option_and_then, Result, Ok, Err, if◌then◌else◌}
use Rattle.rpc_codec.specs.Frames.{IsHeader}
use Rattle.rpc_codec.specs.declared.frame.Header.{Header}
use Rattle.rpc_codec.specs.declared.frame.TheConstants.{HEADER_BYTES, VALUES, BROKEN, STOP}
use Rattle.hal_route.specs.declared.channel.Channel.{Channel}
use Rattle.hal_route.specs.declared.uplink.BadUplink.{BadUplink}
use Rattle.hal_route.specs.declared.uplink.Passed.{Passed}
use Rattle.hal_route.specs.declared.uplink.Passed.TheVariants.{To, Stop}
use Rattle.hal_route.specs.declared.uplink.Test.{Test}
use Rattle.hal_route.specs.declared.uplink.Test.TheVariants.{Spelling, Route, Turn, Length, Room}
use Rattle.hal_route.specs.declared.way.Way.{Way}
use Rattle.hal_route.specs.declared.way.Way.TheVariants.{Asks, Answers, Stops}
use Rattle.hal_route.specs.Hal.{State, room_of, least_room, recorded}

-- a level sends no other kind
abbrev pub is_sent : ℕ → Bool
is_sent kind = (kind == VALUES) || (kind == BROKEN) || (kind == STOP)

-- mux and sec are one number
abbrev pub has_mux : Header → ℕ → Bool
has_mux h mux = (h.mux == mux) && (h.sec == mux)

abbrev pub has_stop_tag : Header → Bool
has_stop_tag h = has_mux h 0 && (h.typ == 0)

-- the bytes are a frame with this header
pub record IsSpelled (frame : List ℕ) (h : Header) : Type 0 where
  pub header : IsHeader frame h
  pub length : length frame ≡ HEADER_BYTES + h.length
  pub kind : is_sent h.kind ≡ true
  pub stop : (h.kind == STOP) ≡ has_stop_tag h

-- row k has typ 2k+1 for its request and 2k+2 for its reply
abbrev pub row_of : ℕ → ℕ
row_of typ = (typ - 1) / 2

abbrev pub is_request : ℕ → Bool
is_request typ = typ % 2 == 1

-- the way of a row's message from a level: its caller sends the request, which has values, and its callee the reply
unfoldable pub sent_by : ℕ → Header → Channel → Option Way
sent_by from h c =
    if is_request h.typ
    then (if (from == c.from) && has_mux h c.mux && (h.kind == VALUES) then Some (Asks c) else None)
    else (if (from == c.to) && has_mux h c.mux then Some (Answers c) else None)

-- where a frame with this header leads that came from a level
unfoldable pub way : State → ℕ → Header → Option Way
way hal from h =
    if h.typ == 0
    then (if (from == hal.main) && has_mux h 0 then Some Stops else None)
    else option_and_then (sent_by from h) (slice_get hal.channels (row_of h.typ))

-- the bytes of the payload with values of a frame that leads this way
abbrev pub payload_of : Option Way → ℕ
payload_of (Some (Asks c)) = c.request
payload_of (Some (Answers c)) = c.reply
payload_of _ = 0

-- no other kind has a payload
abbrev pub length_due : Header → Option Way → ℕ
length_due h w = if h.kind == VALUES then payload_of w else 0

-- the way ends the run
abbrev pub ends : Option Way → Bool
ends (Some Stops) = true
ends _ = false

abbrev pub tests_of : State → Header → Option Way → List (Test × Bool)
tests_of hal h w =
    (Route, is_some w) ∷ (Turn, h.turn == hal.frames + 1) ∷ (Length, h.length == length_due h w) ∷ (Room, ends w || nat_le least_room (room_of hal)) ∷ []

-- the tests of a frame that came from a level, in their order, and whether each holds
abbrev pub tests : State → ℕ → Header → List (Test × Bool)
tests hal from h = tests_of hal h (way hal from h)

-- the first test that does not hold
abbrev pub first_of : List (Test × Bool) → Option Test
first_of [] = None
first_of (t ∷ ts) = if t.1 then first_of ts else Some t.0

-- bytes that are a frame, for which this test is the first that fails
pub record FailsTest (hal : State) (from : ℕ) (frame : List ℕ) (test : Test) : Type 0 where
  pub header : Header
  pub spelled : IsSpelled frame header
  pub first : first_of (tests hal from header) ≡ Some test

-- the bytes that came from a level fail this test first
abbrev pub Fails : State → ℕ → List ℕ → Test → Type 0
Fails hal from frame Spelling = (h : Header) → IsSpelled frame h → ⊥
Fails hal from frame test = FailsTest hal from frame test

-- a request goes to the callee, and a reply to the caller
abbrev pub answer_of : Way → Passed
answer_of (Asks c) = To c.to
answer_of (Answers c) = To c.from
answer_of Stops = Stop

-- the stop frame is not in the journal
abbrev pub after : State → List ℕ → Way → State
after hal frame (Asks c) = recorded hal frame
after hal frame (Answers c) = recorded hal frame
after hal frame Stops = hal

-- the frame that came from a level meets the tests, and is passed on
pub record Passes (hal : State) (from : ℕ) (frame : List ℕ) (passed : Passed) (hal' : State) : Type 0 where
  pub header : Header
  pub spelled : IsSpelled frame header
  pub leads : Way
  pub way : way hal from header ≡ Some leads
  pub holds : first_of (tests hal from header) ≡ None
  pub answer : passed ≡ answer_of leads
  pub state : hal' ≡ after hal frame leads

-- what `take` answers to bytes from a level, and the state behind it
abbrev pub IsTaken : State → ℕ → List ℕ → Result Passed BadUplink → State → Type 0
IsTaken hal from frame (Ok passed) hal' = Passes hal from frame passed hal'
IsTaken hal from frame (Err bad) hal' = Fails hal from frame bad.test × (hal' ≡ hal)
