-- Which frames lead which way.
use Rattle.std.proofs.Common.{◌≡◌, ℕ, ◌+◌, ◌*◌, ◌%◌, ◌==◌, ◌⊎◌, inl, inr, Bool, true, false, ◌&&◌, Option, Some, None, option_and_then, slice_get, refl, ap, ◌∙◌, arith, if◌then◌else◌}
use Rattle.std.proofs.lemmas.Bool.{eqb-true, eqb-false, eq-eqb, ne_eqb}
use Rattle.rpc_codec.specs.declared.frame.Header.{Header}
use Rattle.rpc_codec.specs.declared.frame.TheConstants.{VALUES}
use Rattle.hal_route.specs.declared.channel.Channel.{Channel}
use Rattle.hal_route.specs.declared.way.Way.{Way}
use Rattle.hal_route.specs.declared.way.Way.TheVariants.{Asks, Answers, Stops}
use Rattle.hal_route.specs.Hal.{State}
use Rattle.hal_route.specs.Passing.{IsReply, IsRequest, IsStop}
use Rattle.hal_route.specs.Take.{has_mux, is_request, row_of, sent_by, way}

-- both tests hold
both : (a b : Bool) → (a && b) ≡ true → (a ≡ true) × (b ≡ true)
both true b h = (refl, h)
both false b h = absurd (cc)

-- the choice that was made
chosen : {X : Type 0} (b : Bool) (x y z : X) → (if b then x else y) ≡ z → ((b ≡ true) × (x ≡ z)) ⊎ ((b ≡ false) × (y ≡ z))
chosen true x y z h = inl (refl, h)
chosen false x y z h = inr (refl, h)

-- what is let through is what was asked for
let_through : {X : Type 0} (b : Bool) (x z : X) → (if b then Some x else None) ≡ Some z → (b ≡ true) × (x ≡ z)
let_through true x z h = (refl, cc)
let_through false x z h = absurd (cc)

-- what was found, and what came of it
found : {X Y : Type 0} (f : X → Option Y) (o : Option X) (y : Y) → option_and_then f o ≡ Some y → (x : X) × (o ≡ Some x) × (f x ≡ Some y)
found f None y h = absurd (cc)
found f (Some x) y h = (x, refl, h)

same_mux : (h : Header) (mux : ℕ) → h.mux ≡ mux → h.sec ≡ mux → has_mux h mux ≡ true
same_mux h mux m s = rw (eq-eqb h.mux mux m, eq-eqb h.sec mux s) refl

pub request-way : (hal : State) (from : ℕ) (h : Header) (k : ℕ) (c : Channel) → IsRequest hal from h k c → way hal from h ≡ Some (Asks c)
unfolding way sent_by
request-way hal from h k c is =
    let tag : h.typ ≡ 2 * k + 1 = is.typ in
    let some : (h.typ == 0) ≡ false = ne_eqb h.typ 0 (λ none. omega arith) in
    let row : row_of h.typ ≡ k = omega arith in
    let odd : is_request h.typ ≡ true = eq-eqb (h.typ % 2) 1 (omega arith) in
    rw (some, row, is.row, odd, eq-eqb from c.from is.caller, eq-eqb h.mux c.mux is.mux, eq-eqb h.sec c.mux is.sec, eq-eqb h.kind VALUES is.kind) refl

pub reply-way : (hal : State) (from : ℕ) (h : Header) (k : ℕ) (c : Channel) → IsReply hal from h k c → way hal from h ≡ Some (Answers c)
unfolding way sent_by
reply-way hal from h k c is =
    let tag : h.typ ≡ 2 * k + 2 = is.typ in
    let some : (h.typ == 0) ≡ false = ne_eqb h.typ 0 (λ none. omega arith) in
    let row : row_of h.typ ≡ k = omega arith in
    let even : is_request h.typ ≡ false = ne_eqb (h.typ % 2) 1 (λ odd. omega arith) in
    rw (some, row, is.row, even, eq-eqb from c.to is.callee, eq-eqb h.mux c.mux is.mux, eq-eqb h.sec c.mux is.sec) refl

pub stop-way : (hal : State) (from : ℕ) (h : Header) → IsStop hal from h → way hal from h ≡ Some Stops
unfolding way
stop-way hal from h is =
    rw (eq-eqb h.typ 0 is.typ, eq-eqb from hal.main is.main, eq-eqb h.mux 0 is.mux, eq-eqb h.sec 0 is.sec) refl

-- the row that a frame names leads it this way, or the frame is that of the end
kinds : (hal : State) (from : ℕ) (h : Header) (w : Way) → way hal from h ≡ Some w → (IsStop hal from h × (Stops ≡ w)) ⊎ ((c : Channel) × (h.typ ≡ 0 → ⊥) × (slice_get hal.channels (row_of h.typ) ≡ Some c) × (sent_by from h c ≡ Some w))
unfolding way
kinds hal from h w leads =
    elim (chosen (h.typ == 0) (if (from == hal.main) && has_mux h 0 then Some Stops else None) (option_and_then (sent_by from h) (slice_get hal.channels (row_of h.typ))) (Some w) leads) [
      | inl l ↦
          let open_ = let_through ((from == hal.main) && has_mux h 0) Stops w l.1 in
          let tests = both (from == hal.main) (has_mux h 0) open_.0 in
          let muxes = both (h.mux == 0) (h.sec == 0) tests.1 in
          inl (record { main = eqb-true _ _ tests.0; mux = eqb-true _ _ muxes.0; sec = eqb-true _ _ muxes.1; typ = eqb-true _ _ l.0 }, open_.1)
      | inr r ↦
          let row = found (sent_by from h) (slice_get hal.channels (row_of h.typ)) w r.1 in
          inr (row.0, eqb-false _ _ r.0, row.1, row.2)
    ]

-- what the row says of its frame
sides : (from : ℕ) (h : Header) (c : Channel) (w : Way) → sent_by from h c ≡ Some w → ((h.typ % 2 ≡ 1) × (from ≡ c.from) × (h.mux ≡ c.mux) × (h.sec ≡ c.mux) × (h.kind ≡ VALUES) × (Asks c ≡ w)) ⊎ ((h.typ % 2 ≡ 1 → ⊥) × (from ≡ c.to) × (h.mux ≡ c.mux) × (h.sec ≡ c.mux) × (Answers c ≡ w))
unfolding sent_by
sides from h c w sent =
    elim (chosen (is_request h.typ) (if (from == c.from) && has_mux h c.mux && (h.kind == VALUES) then Some (Asks c) else None) (if (from == c.to) && has_mux h c.mux then Some (Answers c) else None) (Some w) sent) [
      | inl l ↦
          let open_ = let_through ((from == c.from) && has_mux h c.mux && (h.kind == VALUES)) (Asks c) w l.1 in
          let tests = both ((from == c.from) && has_mux h c.mux) (h.kind == VALUES) open_.0 in
          let more = both (from == c.from) (has_mux h c.mux) tests.0 in
          let muxes = both (h.mux == c.mux) (h.sec == c.mux) more.1 in
          inl (eqb-true _ _ l.0, eqb-true _ _ more.0, eqb-true _ _ muxes.0, eqb-true _ _ muxes.1, eqb-true _ _ tests.1, open_.1)
      | inr r ↦
          let open_ = let_through ((from == c.to) && has_mux h c.mux) (Answers c) w r.1 in
          let tests = both (from == c.to) (has_mux h c.mux) open_.0 in
          let muxes = both (h.mux == c.mux) (h.sec == c.mux) tests.1 in
          inr (eqb-false _ _ r.0, eqb-true _ _ tests.0, eqb-true _ _ muxes.0, eqb-true _ _ muxes.1, open_.1)
    ]

pub asks-only : (hal : State) (from : ℕ) (h : Header) (c : Channel) → way hal from h ≡ Some (Asks c) → (k : ℕ) × IsRequest hal from h k c
asks-only hal from h c leads =
    elim (kinds hal from h (Asks c) leads) [
      | inl s ↦ absurd (cc)
      | inr r ↦
          elim (sides from h r.0 (Asks c) r.3) [
            | inl a ↦
                let same : r.0 ≡ c = cc in
                let odd : h.typ % 2 ≡ 1 = a.0 in (
                  row_of h.typ,
                  record {
                    row = r.2 ∙ ap Some same;
                    caller = a.1 ∙ ap (λ (d : Channel). d.from) same;
                    mux = a.2 ∙ ap (λ (d : Channel). d.mux) same;
                    sec = a.3 ∙ ap (λ (d : Channel). d.mux) same;
                    typ = omega arith;
                    kind = a.4;
                  },
                )
            | inr b ↦ absurd (cc)
          ]
    ]

pub answers-only : (hal : State) (from : ℕ) (h : Header) (c : Channel) → way hal from h ≡ Some (Answers c) → (k : ℕ) × IsReply hal from h k c
answers-only hal from h c leads =
    elim (kinds hal from h (Answers c) leads) [
      | inl s ↦ absurd (cc)
      | inr r ↦
          elim (sides from h r.0 (Answers c) r.3) [
            | inl a ↦ absurd (cc)
            | inr b ↦
                let same : r.0 ≡ c = cc in
                let some : h.typ ≡ 0 → ⊥ = r.1 in
                let even : h.typ % 2 ≡ 1 → ⊥ = b.0 in (
                  row_of h.typ,
                  record {
                    row = r.2 ∙ ap Some same;
                    callee = b.1 ∙ ap (λ (d : Channel). d.to) same;
                    mux = b.2 ∙ ap (λ (d : Channel). d.mux) same;
                    sec = b.3 ∙ ap (λ (d : Channel). d.mux) same;
                    typ = omega arith;
                  },
                )
          ]
    ]

pub stops-only : (hal : State) (from : ℕ) (h : Header) → way hal from h ≡ Some Stops → IsStop hal from h
stops-only hal from h leads =
    elim (kinds hal from h Stops leads) [
      | inl s ↦ s.0
      | inr r ↦ elim (sides from h r.0 Stops r.3) [ inl a ↦ absurd (cc) | inr b ↦ absurd (cc) ]
    ]
