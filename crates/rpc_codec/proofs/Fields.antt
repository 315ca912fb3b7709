-- What the fields of a header are, by its bytes.
use Rattle.std.proofs.Common.{◌≡◌, ℕ, ◌+◌, ◌-◌, ◌≤◌, List, [], ◌++◌, length, take, drop, slice_index, refl, sym, ap, subst, ◌∙◌, arith}
use Rattle.std.proofs.Math.Seq.{take-add}
use Rattle.std.proofs.lemmas.List.{take-append-drop, take_all, length-drop, get_or-drop}
use Rattle.byteorder.specs.Endian.{big_number, big_bytes}
use Rattle.byteorder.specs.Numbers.{big_number-reads_back, big_from-lt}
use Rattle.rpc_codec.specs.declared.frame.Header.{Header}
use Rattle.rpc_codec.specs.Frames.{header_bytes, IsInRange, IsHeader}
use Rattle.rpc_codec.proofs.Bytes.{AreBytes, big_bytes-big_number}

-- the numbers at the places of the fields
abbrev fields_at : List ℕ → Header
fields_at bytes = record {
  mux = big_number 4 bytes;
  sec = big_number 4 (drop 4 bytes);
  typ = big_number 4 (drop 8 bytes);
  turn = big_number 8 (drop 12 bytes);
  kind = big_number 1 (drop 20 bytes);
  length = big_number 4 (drop 21 bytes);
}

-- they are the fields of the header whose bytes come first
fields_at-header_bytes : (header : Header) (rest : List ℕ) → IsInRange header → fields_at (header_bytes header ++ rest) ≡ header
unfolding header_bytes
fields_at-header_bytes header rest range =
    let bytes : List ℕ = header_bytes header ++ rest in
    λ i. record {
      mux = big_number-reads_back 4 header.mux (drop 4 bytes) range.mux i;
      sec = big_number-reads_back 4 header.sec (drop 8 bytes) range.sec i;
      typ = big_number-reads_back 4 header.typ (drop 12 bytes) range.typ i;
      turn = big_number-reads_back 8 header.turn (drop 20 bytes) range.turn i;
      kind = big_number-reads_back 1 header.kind (drop 21 bytes) range.kind i;
      length = big_number-reads_back 4 header.length (drop 25 bytes) range.length i;
    }

-- bytes have one header at most
pub one_header : (bytes : List ℕ) (one other : Header) → IsHeader bytes one → IsHeader bytes other → one ≡ other
one_header bytes one other first second = sym (fields one first) ∙ fields other second
  where
    fields : (header : Header) → IsHeader bytes header → fields_at bytes ≡ header
    fields header is =
        let whole : bytes ≡ header_bytes header ++ drop 25 bytes = sym (take-append-drop 25 bytes) ∙ ap (λ (front : List ℕ). front ++ drop 25 bytes) is.front in
        ap fields_at whole ∙ fields_at-header_bytes header (drop 25 bytes) is.fields

-- whatever follows the bytes of a header, they are read as it
pub header_returns : (header : Header) (rest : List ℕ) → IsInRange header → IsHeader (header_bytes header ++ rest) header
unfolding header_bytes
header_returns header rest range = record { long = omega arith; front = refl; fields = range }

pub own_header : (header : Header) → IsInRange header → IsHeader (header_bytes header) header
unfolding header_bytes
own_header header range = record { long = omega arith; front = refl; fields = range }

-- what stands behind some bytes is bytes too
small_behind : (i : ℕ) (bytes : List ℕ) → AreBytes bytes → AreBytes (drop i bytes)
small_behind i bytes small k = rw (get_or-drop i bytes k 0) (small (i + k))

-- the bytes of a number behind those before it
grown : (i n : ℕ) (front bytes : List ℕ) → i + n ≤ length bytes → AreBytes bytes → take i bytes ≡ front → take (i + n) bytes ≡ front ++ big_bytes n (big_number n (drop i bytes))
grown i n front bytes long small before =
    let number = big_bytes-big_number n (drop i bytes) (omega (arith, length-drop i bytes)) (small_behind i bytes small) in
    take-add i n bytes ∙ rw (before, number) refl

-- bytes of enough length have the header of those fields
has_fields : (bytes : List ℕ) → 25 ≤ length bytes → AreBytes bytes → IsHeader bytes (fields_at bytes)
unfolding header_bytes
has_fields bytes long small =
    let at : ℕ → ℕ → List ℕ = λ i n. big_bytes n (big_number n (drop i bytes)) in
    let mux = grown 0 4 [] bytes (omega arith) small refl in
    let sec = grown 4 4 (at 0 4) bytes (omega arith) small mux in
    let typ = grown 8 4 (at 0 4 ++ at 4 4) bytes (omega arith) small sec in
    let turn = grown 12 8 (at 0 4 ++ at 4 4 ++ at 8 4) bytes (omega arith) small typ in
    let kind = grown 20 1 (at 0 4 ++ at 4 4 ++ at 8 4 ++ at 12 8) bytes (omega arith) small turn in
    record {
      long = long;
      front = grown 21 4 (at 0 4 ++ at 4 4 ++ at 8 4 ++ at 12 8 ++ at 20 1) bytes (omega arith) small kind;
      fields = record {
        mux = big_from-lt 0 4 bytes small;
        sec = big_from-lt 0 4 (drop 4 bytes) (small_behind 4 bytes small);
        typ = big_from-lt 0 4 (drop 8 bytes) (small_behind 8 bytes small);
        turn = big_from-lt 0 8 (drop 12 bytes) (small_behind 12 bytes small);
        kind = big_from-lt 0 1 (drop 20 bytes) (small_behind 20 bytes small);
        length = big_from-lt 0 4 (drop 21 bytes) (small_behind 21 bytes small);
      };
    }

-- the bytes from a place on, as the code cuts them
cut : (i : ℕ) (bytes : List ℕ) → take (length bytes - i) (drop i bytes) ≡ drop i bytes
cut i bytes = take_all (length bytes - i) (drop i bytes) (omega (arith, length-drop i bytes))

-- a header whose fields were read at their places
pub is_header : (bytes : List ℕ) (header : Header) → 25 ≤ length bytes → AreBytes bytes
    → header.mux ≡ big_number 4 bytes
    → header.sec ≡ big_number 4 (take (length bytes - 4) (drop 4 bytes))
    → header.typ ≡ big_number 4 (take (length bytes - 8) (drop 8 bytes))
    → header.turn ≡ big_number 8 (take (length bytes - 12) (drop 12 bytes))
    → header.kind ≡ slice_index bytes 20
    → header.length ≡ big_number 4 (take (length bytes - 21) (drop 21 bytes))
    → IsHeader bytes header
is_header bytes header long small mux sec typ turn kind size =
    let last : big_number 1 (drop 20 bytes) ≡ header.kind = omega (arith, get_or-drop 20 bytes 0 0) in
    let same : fields_at bytes ≡ header = λ i. record {
      mux = sym mux i;
      sec = sym (sec ∙ ap (big_number 4) (cut 4 bytes)) i;
      typ = sym (typ ∙ ap (big_number 4) (cut 8 bytes)) i;
      turn = sym (turn ∙ ap (big_number 8) (cut 12 bytes)) i;
      kind = last i;
      length = sym (size ∙ ap (big_number 4) (cut 21 bytes)) i;
    } in
    subst (IsHeader bytes) same (has_fields bytes long small)
