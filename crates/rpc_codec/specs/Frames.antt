-- The bytes of a frame: a header of six numbers and then a payload, all big endian.
use Rattle.std.specs.Prelude.{◌≡◌, ℕ, ◌^◌, ◌<◌, ◌≤◌, List, ◌++◌, length, take}
use Rattle.byteorder.specs.Endian.{big_bytes}
use Rattle.rpc_codec.specs.declared.frame.Header.{Header}
use Rattle.rpc_codec.specs.declared.frame.TheConstants.{HEADER_BYTES}

-- the bytes of a header, where `big_bytes n x` are the n bytes of the number x, most significant first
unfoldable pub header_bytes : Header → List ℕ
header_bytes header =
    big_bytes 4 header.mux ++ big_bytes 4 header.sec ++ big_bytes 4 header.typ ++ big_bytes 8 header.turn ++ big_bytes 1 header.kind ++ big_bytes 4 header.length

-- each field is a number of its type
pub record IsInRange (header : Header) : Type 0 where
  pub mux : header.mux < 2 ^ 32
  pub sec : header.sec < 2 ^ 32
  pub typ : header.typ < 2 ^ 32
  pub turn : header.turn < 2 ^ 64
  pub kind : header.kind < 2 ^ 8
  pub length : header.length < 2 ^ 32

-- the bytes begin with those of this header
pub record IsHeader (bytes : List ℕ) (header : Header) : Type 0 where
  pub long : HEADER_BYTES ≤ length bytes
  pub front : take HEADER_BYTES bytes ≡ header_bytes header
  pub fields : IsInRange header
