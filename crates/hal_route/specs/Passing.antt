-- Frames that pass, by what they are.
use Rattle.std.specs.Prelude.{◌≡◌, ℕ, ◌+◌, ◌==◌, ◌++◌, false, true, List, length, slice_get, Some, Result, Ok, if◌then◌else◌}
use Rattle.rpc_codec.specs.Frames.{IsInRange, header_bytes}
use Rattle.rpc_codec.specs.declared.frame.Header.{Header}
use Rattle.rpc_codec.specs.declared.frame.TheConstants.{VALUES}
use Rattle.cl_mean.specs.Journal.{typ_of}
use Rattle.hal_route.specs.declared.channel.Channel.{Channel}
use Rattle.hal_route.specs.declared.uplink.BadUplink.{BadUplink}
use Rattle.hal_route.specs.declared.uplink.Passed.{Passed}
use Rattle.hal_route.specs.declared.uplink.Passed.TheVariants.{To}
use Rattle.hal_route.specs.Hal.{State, recorded}

-- the header is that of the request of row k, and its caller sent it
pub record IsRequest (hal : State) (from : ℕ) (h : Header) (k : ℕ) (c : Channel) : Type 0 where
  pub row : slice_get hal.channels k ≡ Some c
  pub caller : from ≡ c.from
  pub mux : h.mux ≡ c.mux
  pub sec : h.sec ≡ c.mux
  pub typ : h.typ ≡ typ_of k false
  pub kind : h.kind ≡ VALUES

-- the header is that of the reply of row k, and its callee sent it
pub record IsReply (hal : State) (from : ℕ) (h : Header) (k : ℕ) (c : Channel) : Type 0 where
  pub row : slice_get hal.channels k ≡ Some c
  pub callee : from ≡ c.to
  pub mux : h.mux ≡ c.mux
  pub sec : h.sec ≡ c.mux
  pub typ : h.typ ≡ typ_of k true

-- the header is that of the stop frame, and the level of `main` sent it
pub record IsStop (hal : State) (from : ℕ) (h : Header) : Type 0 where
  pub main : from ≡ hal.main
  pub mux : h.mux ≡ 0
  pub sec : h.sec ≡ 0
  pub typ : h.typ ≡ 0

-- the bytes are a frame of this header and this payload of so many bytes, and it is the next one
pub record IsNext (hal : State) (frame payload : List ℕ) (h : Header) (count : ℕ) : Type 0 where
  pub bytes : frame ≡ header_bytes h ++ payload
  pub fields : IsInRange h
  pub turn : h.turn ≡ hal.frames + 1
  pub rest : length payload ≡ count
  pub length : h.length ≡ count

-- the bytes of the payload of a row's reply of this kind
abbrev pub reply_length : ℕ → Channel → ℕ
reply_length kind c = if kind == VALUES then c.reply else 0

-- the frame went to this level, and is in the journal
pub record GoesTo (hal : State) (frame : List ℕ) (to : ℕ) (result : Result Passed BadUplink) (hal' : State) : Type 0 where
  pub answer : result ≡ Ok (To to)
  pub state : hal' ≡ recorded hal frame
