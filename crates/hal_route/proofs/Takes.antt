-- What follows from what `take` answers.
use Rattle.std.proofs.Common.{◌≡◌, ℕ, ◌+◌, ◌*◌, ◌≤◌, ◌==◌, ◌⊎◌, inl, inr, Bool, true, false, ◌||◌, nat_le, List, [], ◌∷◌, ◌++◌, length, Some, None, Result, Ok, Err, refl, sym, ap, subst, ◌∙◌, arith}
use Rattle.std.proofs.lemmas.Bool.{eqb-true, eq-eqb, le-leb, ne_eqb}
use Rattle.std.proofs.Math.Bool.{and-false, or-true}
use Rattle.rpc_codec.specs.Frames.{IsHeader, IsInRange, header_bytes}
use Rattle.rpc_codec.specs.declared.frame.Header.{Header}
use Rattle.rpc_codec.specs.declared.frame.TheConstants.{VALUES, BROKEN, STOP}
use Rattle.cl_mean.specs.Journal.{typ_of}
use Rattle.hal_route.specs.declared.channel.Channel.{Channel}
use Rattle.hal_route.specs.declared.uplink.BadUplink.{BadUplink}
use Rattle.hal_route.specs.declared.uplink.Passed.{Passed}
use Rattle.hal_route.specs.declared.uplink.Passed.TheVariants.{To, Stop}
use Rattle.hal_route.specs.declared.uplink.Test.{Test}
use Rattle.hal_route.specs.declared.uplink.Test.TheVariants.{Spelling, Route, Turn, Length, Room}
use Rattle.hal_route.specs.declared.way.Way.{Way}
use Rattle.hal_route.specs.declared.way.Way.TheVariants.{Asks, Answers, Stops}
use Rattle.hal_route.specs.Hal.{State, least_room, recorded, room_of}
use Rattle.hal_route.specs.Passing.{GoesTo, IsNext, IsReply, IsRequest, IsStop, reply_length}
use Rattle.hal_route.specs.Take.{Fails, FailsTest, IsSpelled, IsTaken, after, answer_of, ends, first_of, has_stop_tag, is_sent, length_due, tests, way}
use Rattle.hal_route.proofs.Ways.{answers-only, asks-only, reply-way, request-way, stop-way, stops-only}

-- bytes have one header at most
abbrev pub OneHeader : Type 0
OneHeader = (bytes : List ℕ) (one other : Header) → IsHeader bytes one → IsHeader bytes other → one ≡ other

-- whatever follows the bytes of a header, they are read as it
abbrev pub HeaderReturns : Type 0
HeaderReturns = (header : Header) (rest : List ℕ) → IsInRange header → IsHeader (header_bytes header ++ rest) header

-- either the bytes are no frame, or a test behind the spelling fails
failure : (hal : State) (from : ℕ) (frame : List ℕ) (t : Test) → Fails hal from frame t → ((t ≡ Spelling) × ((h : Header) → IsSpelled frame h → ⊥)) ⊎ FailsTest hal from frame t
failure hal from frame Spelling f = inl (refl, f)
failure hal from frame Route f = inr f
failure hal from frame Turn f = inr f
failure hal from frame Length f = inr f
failure hal from frame Room f = inr f

-- a failed test is the first of those of the frame's header
first_failed : OneHeader → (hal : State) (from : ℕ) (frame : List ℕ) (t : Test) (h : Header) → Fails hal from frame t → IsSpelled frame h → first_of (tests hal from h) ≡ Some t
first_failed one hal from frame t h f spelled =
    elim (failure hal from frame t f) [
      | inl none ↦ absurd (none.1 h spelled)
      | inr some ↦ subst (λ (x : Header). first_of (tests hal from x) ≡ Some t) (one frame some.header h some.spelled.header spelled.header) some.first
    ]

one_failure : OneHeader → (hal : State) (from : ℕ) (frame : List ℕ) (t u : Test) → Fails hal from frame t → Fails hal from frame u → t ≡ u
one_failure one hal from frame t u f g =
    elim (failure hal from frame t f) [
      | inl none ↦
          elim (failure hal from frame u g) [
            | inl none' ↦ none.0 ∙ sym none'.0
            | inr some' ↦ absurd (none.1 some'.header some'.spelled)
          ]
      | inr some ↦ let second = first_failed one hal from frame u some.header g some.spelled in let first = some.first in cc
    ]

-- a frame whose tests hold is passed on its way
passed_on : OneHeader → (hal hal' : State) (from : ℕ) (frame : List ℕ) (outcome : Result Passed BadUplink) (h : Header) (w : Way) → IsTaken hal from frame outcome hal' → IsSpelled frame h → way hal from h ≡ Some w → first_of (tests hal from h) ≡ None → (outcome ≡ Ok (answer_of w)) × (hal' ≡ after hal frame w)
passed_on one hal hal' from frame (Ok p) h w taken spelled leads holds =
    let same : taken.header ≡ h = one frame taken.header h taken.spelled.header spelled.header in
    let here : way hal from h ≡ Some taken.leads = subst (λ (x : Header). way hal from x ≡ Some taken.leads) same taken.way in
    let ways : taken.leads ≡ w = cc in
    (ap Ok (taken.answer ∙ ap answer_of ways), taken.state ∙ ap (after hal frame) ways)
passed_on one hal hal' from frame (Err e) h w taken spelled leads holds =
    let first = first_failed one hal from frame e.test h taken.0 spelled in
    absurd (cc)

pub one_answer : OneHeader → (hal one two : State) (from : ℕ) (frame : List ℕ) (r s : Result Passed BadUplink) → IsTaken hal from frame r one → IsTaken hal from frame s two → (r ≡ s) × (one ≡ two)
one_answer law hal one two from frame (Ok p) s first second =
    let other = passed_on law hal two from frame s first.header first.leads second first.spelled first.way first.holds in
    (ap Ok first.answer ∙ sym other.0, first.state ∙ sym other.1)
one_answer law hal one two from frame (Err e) (Ok q) first second =
    let other = passed_on law hal one from frame (Err e) second.header second.leads first second.spelled second.way second.holds in
    (other.0 ∙ ap Ok (sym second.answer), other.1 ∙ sym second.state)
one_answer law hal one two from frame (Err e) (Err f) first second =
    let same = one_failure law hal from frame e.test f.test first.0 second.0 in
    (ap (λ (t : Test). Err record { test = t }) same, first.1 ∙ sym second.1)

-- the tests of a frame that is the next one hold where there is room
next_holds : (hal : State) (from : ℕ) (h : Header) (w : Way) → way hal from h ≡ Some w → h.turn ≡ hal.frames + 1 → h.length ≡ length_due h (Some w) → (ends (Some w) || nat_le least_room (room_of hal)) ≡ true → first_of (tests hal from h) ≡ None
next_holds hal from h w leads turn due room = rw (leads, eq-eqb h.turn (hal.frames + 1) turn, eq-eqb h.length (length_due h (Some w)) due, room) refl

-- a tag with a row is not that of the stop frame
row_tag : (h : Header) → (h.typ ≡ 0 → ⊥) → has_stop_tag h ≡ false
row_tag h some = rw (ne_eqb h.typ 0 some) (and-false _)

-- a header and a payload of its length are a frame
next_spelled : HeaderReturns → (hal : State) (frame payload : List ℕ) (h : Header) (count : ℕ) → IsNext hal frame payload h count → is_sent h.kind ≡ true → (h.kind == STOP) ≡ has_stop_tag h → IsSpelled frame h
unfolding header_bytes
next_spelled returns hal frame payload h count next sent stop =
    let long : length (header_bytes h ++ payload) ≡ 25 + length payload = omega arith in
    record {
      header = rw next.bytes (returns h payload next.fields);
      length = rw next.bytes (omega (arith, long, next.rest, next.length));
      kind = sent;
      stop = stop;
    }

has_room : (hal : State) (w : Way) → least_room ≤ room_of hal → (ends (Some w) || nat_le least_room (room_of hal)) ≡ true
has_room hal w room = rw (le-leb least_room (room_of hal) room) (or-true _)

pub request_passes : OneHeader → HeaderReturns → (hal hal' : State) (from : ℕ) (frame payload : List ℕ) (outcome : Result Passed BadUplink) (h : Header) (k : ℕ) (c : Channel) → IsTaken hal from frame outcome hal' → IsRequest hal from h k c → IsNext hal frame payload h c.request → least_room ≤ room_of hal → GoesTo hal frame c.to outcome hal'
request_passes one returns hal hal' from frame payload outcome h k c taken is next room =
    let leads = request-way hal from h k c is in
    let tag : h.typ ≡ 2 * k + 1 = is.typ in
    let sent : is_sent h.kind ≡ true = rw is.kind refl in
    let stop : (h.kind == STOP) ≡ has_stop_tag h = rw is.kind (sym (row_tag h (λ none. omega arith))) in
    let due : length_due h (Some (Asks c)) ≡ c.request = rw is.kind refl in
    let spelled = next_spelled returns hal frame payload h c.request next sent stop in
    let holds = next_holds hal from h (Asks c) leads next.turn (next.length ∙ sym due) (has_room hal (Asks c) room) in
    let passed = passed_on one hal hal' from frame outcome h (Asks c) taken spelled leads holds in
    record { answer = passed.0; state = passed.1 }

-- a reply has values, or none
reply_sent : (kind : ℕ) → (kind ≡ VALUES) ⊎ (kind ≡ BROKEN) → (is_sent kind ≡ true) × ((kind == STOP) ≡ false)
reply_sent kind (inl values) = (rw values refl, rw values refl)
reply_sent kind (inr broken) = (rw broken refl, rw broken refl)

pub reply_passes : OneHeader → HeaderReturns → (hal hal' : State) (from : ℕ) (frame payload : List ℕ) (outcome : Result Passed BadUplink) (h : Header) (k : ℕ) (c : Channel) → IsTaken hal from frame outcome hal' → IsReply hal from h k c → (h.kind ≡ VALUES) ⊎ (h.kind ≡ BROKEN) → IsNext hal frame payload h (reply_length h.kind c) → least_room ≤ room_of hal → GoesTo hal frame c.from outcome hal'
reply_passes one returns hal hal' from frame payload outcome h k c taken is kind next room =
    let leads = reply-way hal from h k c is in
    let tag : h.typ ≡ 2 * k + 2 = is.typ in
    let sent = reply_sent h.kind kind in
    let spelled = next_spelled returns hal frame payload h (reply_length h.kind c) next sent.0 (sent.1 ∙ sym (row_tag h (λ none. omega arith))) in
    let holds = next_holds hal from h (Answers c) leads next.turn next.length (has_room hal (Answers c) room) in
    let passed = passed_on one hal hal' from frame outcome h (Answers c) taken spelled leads holds in
    record { answer = passed.0; state = passed.1 }

pub stop_passes : OneHeader → HeaderReturns → (hal hal' : State) (from : ℕ) (frame payload : List ℕ) (outcome : Result Passed BadUplink) (h : Header) → IsTaken hal from frame outcome hal' → IsStop hal from h → h.kind ≡ STOP → IsNext hal frame payload h 0 → (outcome ≡ Ok Stop) × (hal' ≡ hal)
stop_passes one returns hal hal' from frame payload outcome h taken is kind next =
    let leads = stop-way hal from h is in
    let sent : is_sent h.kind ≡ true = rw kind refl in
    let stop : (h.kind == STOP) ≡ has_stop_tag h = rw (kind, is.mux, is.sec, is.typ) refl in
    let due : length_due h (Some Stops) ≡ 0 = rw kind refl in
    let spelled = next_spelled returns hal frame payload h 0 next sent stop in
    let holds = next_holds hal from h Stops leads next.turn (next.length ∙ sym due) refl in
    passed_on one hal hal' from frame outcome h Stops taken spelled leads holds

-- where no test fails, the turn is the next one
turn_holds : (a b c d : Bool) → first_of ((Route, a) ∷ (Turn, b) ∷ (Length, c) ∷ (Room, d) ∷ []) ≡ None → b ≡ true
turn_holds true true c d h = refl
turn_holds true false c d h = absurd (cc)
turn_holds false b c d h = absurd (cc)

-- what was passed to a level is in the journal
recorded_at : (hal : State) (frame : List ℕ) (to : ℕ) (w : Way) → To to ≡ answer_of w → after hal frame w ≡ recorded hal frame
recorded_at hal frame to (Asks c) h = refl
recorded_at hal frame to (Answers c) h = refl
recorded_at hal frame to Stops h = absurd (cc)

pub turn_is_place : OneHeader → (hal hal' : State) (from to : ℕ) (frame : List ℕ) (h : Header) → IsTaken hal from frame (Ok (To to)) hal' → IsSpelled frame h → h.turn ≡ hal'.frames
turn_is_place one hal hal' from to frame h taken spelled =
    let same : taken.header ≡ h = one frame taken.header h taken.spelled.header spelled.header in
    let turn = eqb-true taken.header.turn (hal.frames + 1) (turn_holds _ _ _ _ taken.holds) in
    let state : hal' ≡ recorded hal frame = taken.state ∙ recorded_at hal frame to taken.leads taken.answer in
    ap (λ (x : Header). x.turn) (sym same) ∙ turn ∙ ap (λ (x : State). x.frames) (sym state)

-- the way of a frame that was passed on
way_of : OneHeader → (hal hal' : State) (from : ℕ) (frame : List ℕ) (p : Passed) (h : Header) → (taken : IsTaken hal from frame (Ok p) hal') → IsSpelled frame h → way hal from h ≡ Some taken.leads
way_of one hal hal' from frame p h taken spelled = subst (λ (x : Header). way hal from x ≡ Some taken.leads) (one frame taken.header h taken.spelled.header spelled.header) taken.way

-- only its last way ends a run
stop_ends : (w : Way) → Stop ≡ answer_of w → w ≡ Stops
stop_ends (Asks c) h = absurd (cc)
stop_ends (Answers c) h = absurd (cc)
stop_ends Stops h = refl

pub only_main_stops : (hal hal' : State) (from : ℕ) (frame : List ℕ) → IsTaken hal from frame (Ok Stop) hal' → from ≡ hal.main
only_main_stops hal hal' from frame taken =
    let is = stops-only hal from taken.header (taken.way ∙ ap Some (stop_ends taken.leads taken.answer)) in
    is.main

-- a request's tag leads to the callee
request_from : (hal : State) (from k : ℕ) (h : Header) (w : Way) → way hal from h ≡ Some w → h.typ ≡ typ_of k false → (c : Channel) × IsRequest hal from h k c × (answer_of w ≡ To c.to)
request_from hal from k h (Asks c) leads tag =
    let found = asks-only hal from h c leads in
    let there : h.typ ≡ 2 * found.0 + 1 = found.1.typ in
    let same : found.0 ≡ k = omega arith in
    (c, subst (λ (n : ℕ). IsRequest hal from h n c) same found.1, refl)
request_from hal from k h (Answers c) leads tag =
    let found = answers-only hal from h c leads in
    let there : h.typ ≡ 2 * found.0 + 2 = found.1.typ in
    absurd (omega arith)
request_from hal from k h Stops leads tag =
    let none : h.typ ≡ 0 = (stops-only hal from h leads).typ in
    absurd (omega arith)

-- a reply's tag leads to the caller
reply_from : (hal : State) (from k : ℕ) (h : Header) (w : Way) → way hal from h ≡ Some w → h.typ ≡ typ_of k true → (c : Channel) × IsReply hal from h k c × (answer_of w ≡ To c.from)
reply_from hal from k h (Asks c) leads tag =
    let found = asks-only hal from h c leads in
    let there : h.typ ≡ 2 * found.0 + 1 = found.1.typ in
    absurd (omega arith)
reply_from hal from k h (Answers c) leads tag =
    let found = answers-only hal from h c leads in
    let there : h.typ ≡ 2 * found.0 + 2 = found.1.typ in
    let same : found.0 ≡ k = omega arith in
    (c, subst (λ (n : ℕ). IsReply hal from h n c) same found.1, refl)
reply_from hal from k h Stops leads tag =
    let none : h.typ ≡ 0 = (stops-only hal from h leads).typ in
    absurd (omega arith)

pub request_sender : OneHeader → (hal hal' : State) (from k : ℕ) (frame : List ℕ) (h : Header) (p : Passed) → IsTaken hal from frame (Ok p) hal' → IsSpelled frame h → h.typ ≡ typ_of k false → (c : Channel) × IsRequest hal from h k c × (p ≡ To c.to)
request_sender one hal hal' from k frame h p taken spelled tag =
    let found = request_from hal from k h taken.leads (way_of one hal hal' from frame p h taken spelled) tag in
    (found.0, found.1, taken.answer ∙ found.2)

pub reply_sender : OneHeader → (hal hal' : State) (from k : ℕ) (frame : List ℕ) (h : Header) (p : Passed) → IsTaken hal from frame (Ok p) hal' → IsSpelled frame h → h.typ ≡ typ_of k true → (c : Channel) × IsReply hal from h k c × (p ≡ To c.from)
reply_sender one hal hal' from k frame h p taken spelled tag =
    let found = reply_from hal from k h taken.leads (way_of one hal hal' from frame p h taken spelled) tag in
    (found.0, found.1, taken.answer ∙ found.2)
