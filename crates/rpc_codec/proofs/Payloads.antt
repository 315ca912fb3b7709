-- Payloads, both ways round.
use Rattle.std.proofs.Common.{◌≡◌, ℕ, zero, suc, ◌+◌, ◌<◌, ◌≤◌, arith, ℤ, pos, List, [], ◌∷◌, ◌++◌, length, take, drop, get_or, set, refl, sym, ap, ◌∙◌, append_assoc, true, length-append, length-drop}
use Rattle.std.proofs.lemmas.Bool.{false≢true}
use Rattle.std.proofs.lemmas.List.{take-append-drop, get_or-drop, drop_more, drop_all, drop-drop, take_all, take_more_set, append-nil}
use Rattle.byteorder.specs.Endian.{big_bytes, big_number}
use Rattle.byteorder.specs.Numbers.{length-bytes_high_first, big_from-lt}
use Rattle.cl_tree.specs.declared.kinds.IntKind.{IntKind}
use Rattle.cl_tree.specs.Arithmetic.{fits, residue, value}
use Rattle.cl_mean.specs.Journal.{payload_bytes, payload_numbers}
use Rattle.cl_mean.specs.LocalRun.{is_fitting}
use Rattle.cl_mean.specs.Shape.{size_of, total_size}
use Rattle.rpc_codec.proofs.Bytes.{AreBytes, big_bytes-big_number}
use Rattle.rpc_codec.proofs.Ranges.{both, both_back, number_back, residue_back, value_fits}

behind : (n x : ℕ) (rest : List ℕ) → drop n (big_bytes n x ++ rest) ≡ rest
behind zero x rest = refl
behind (suc n) x rest = behind n x rest

pub numbers_return : (kinds : List IntKind) (ns : List ℤ) (rest : List ℕ) → is_fitting kinds ns ≡ true → payload_numbers kinds (payload_bytes kinds ns ++ rest) ≡ ns
unfolding payload_numbers payload_bytes
numbers_return [] [] rest e = refl
numbers_return [] (n ∷ ns) rest e = absurd (false≢true e)
numbers_return (k ∷ ks) [] rest e = absurd (false≢true e)
numbers_return (k ∷ ks) (n ∷ ns) rest e =
    let f : (fits k n ≡ true) × (is_fitting ks ns ≡ true) = both (fits k n) (is_fitting ks ns) e in
    let more : List ℕ = payload_bytes ks ns ++ rest in
    let front : big_bytes (size_of k) (residue k n) ++ payload_bytes ks ns ++ rest ≡ big_bytes (size_of k) (residue k n) ++ more = append_assoc (big_bytes (size_of k) (residue k n)) (payload_bytes ks ns) rest in
    ap (λ (bytes : List ℕ). value k (pos (big_number (size_of k) bytes)) ∷ payload_numbers ks (drop (size_of k) bytes)) front
    ∙ ap (λ (m : ℤ). m ∷ payload_numbers ks (drop (size_of k) (big_bytes (size_of k) (residue k n) ++ more))) (number_back k n more f.0)
    ∙ ap (λ (bytes : List ℕ). n ∷ payload_numbers ks bytes) (behind (size_of k) (residue k n) more)
    ∙ ap (λ (ms : List ℤ). n ∷ ms) (numbers_return ks ns rest f.1)

small_behind : (i : ℕ) (bytes : List ℕ) → AreBytes bytes → AreBytes (drop i bytes)
small_behind i bytes small k = rw (get_or-drop i bytes k 0) (small (i + k))

empty : (bytes : List ℕ) → length bytes ≡ 0 → [] ≡ bytes
empty [] e = refl
empty (b ∷ bs) e = absurd (omega arith)

pub bytes_return : (kinds : List IntKind) (bytes : List ℕ) → AreBytes bytes → length bytes ≡ total_size kinds → payload_bytes kinds (payload_numbers kinds bytes) ≡ bytes
unfolding payload_numbers payload_bytes
bytes_return [] bytes small long = empty bytes long
bytes_return (k ∷ ks) bytes small long =
    let number : residue k (value k (pos (big_number (size_of k) bytes))) ≡ big_number (size_of k) bytes = residue_back k (big_number (size_of k) bytes) (big_from-lt 0 (size_of k) bytes small) in
    let first : big_bytes (size_of k) (big_number (size_of k) bytes) ≡ take (size_of k) bytes = big_bytes-big_number (size_of k) bytes (omega arith) small in
    let rest : payload_bytes ks (payload_numbers ks (drop (size_of k) bytes)) ≡ drop (size_of k) bytes = bytes_return ks (drop (size_of k) bytes) (small_behind (size_of k) bytes small) (omega (arith, length-drop (size_of k) bytes)) in
    rw (number, first, rest) (take-append-drop (size_of k) bytes)

pub numbers_fit : (kinds : List IntKind) (bytes : List ℕ) → is_fitting kinds (payload_numbers kinds bytes) ≡ true
unfolding payload_numbers
numbers_fit [] bytes = refl
numbers_fit (k ∷ ks) bytes = both_back (fits k (value k (pos (big_number (size_of k) bytes)))) (is_fitting ks (payload_numbers ks (drop (size_of k) bytes))) (value_fits k (pos (big_number (size_of k) bytes))) (numbers_fit ks (drop (size_of k) bytes))

pub payload_long : (kinds : List IntKind) (ns : List ℤ) → length ns ≡ length kinds → length (payload_bytes kinds ns) ≡ total_size kinds
unfolding payload_bytes
payload_long [] ns e = refl
payload_long (k ∷ ks) [] e = absurd (omega arith)
payload_long (k ∷ ks) (n ∷ ns) e =
    let rest = payload_long ks ns (omega arith) in
    omega (arith, length-append (big_bytes (size_of k) (residue k n)) (payload_bytes ks ns), length-bytes_high_first (size_of k) (residue k n), rest)

-- ---- one number further

-- an end of a payload, by its first number
module _ (kinds : List IntKind) (i : ℕ) (d : IntKind) (h : i < length kinds) where
  abbrev kind_here : IntKind
  kind_here = get_or kinds i d

  size_step : total_size (drop i kinds) ≡ size_of kind_here + total_size (drop (i + 1) kinds)
  size_step = rw (drop_more kinds i d h) refl

  bytes_step : (ns : List ℤ) (z : ℤ) → i < length ns → payload_bytes (drop i kinds) (drop i ns) ≡ big_bytes (size_of kind_here) (residue kind_here (get_or ns i z)) ++ payload_bytes (drop (i + 1) kinds) (drop (i + 1) ns)
  unfolding payload_bytes
  bytes_step ns z h' = rw (drop_more kinds i d h, drop_more ns i z h') refl

  numbers_step : (bytes : List ℕ) → payload_numbers (drop i kinds) bytes ≡ value kind_here (pos (big_number (size_of kind_here) bytes)) ∷ payload_numbers (drop (i + 1) kinds) (drop (size_of kind_here) bytes)
  unfolding payload_numbers
  numbers_step bytes = rw (drop_more kinds i d h) refl

  pub bytes_more : (ns : List ℤ) (n : ℤ) (buf new whole : List ℕ) → i < length ns → n ≡ get_or ns i (pos 0) → new ≡ buf ++ big_bytes (size_of kind_here) (residue kind_here n) → buf ++ payload_bytes (drop i kinds) (drop i ns) ≡ whole → new ++ payload_bytes (drop (i + 1) kinds) (drop (i + 1) ns) ≡ whole
  bytes_more ns n buf new whole h' is put before =
      let rest : List ℕ = payload_bytes (drop (i + 1) kinds) (drop (i + 1) ns) in
      ap (λ (xs : List ℕ). xs ++ rest) put ∙ append_assoc buf (big_bytes (size_of kind_here) (residue kind_here n)) rest
      ∙ ap (λ (m : ℤ). buf ++ (big_bytes (size_of kind_here) (residue kind_here m) ++ rest)) is
      ∙ ap (λ (xs : List ℕ). buf ++ xs) (sym (bytes_step ns (pos 0) h')) ∙ before

  pub long_more : (n : ℤ) (buf new : List ℕ) (whole : ℕ) → new ≡ buf ++ big_bytes (size_of kind_here) (residue kind_here n) → length buf + total_size (drop i kinds) ≡ whole → length new + total_size (drop (i + 1) kinds) ≡ whole
  long_more n buf new whole put before =
      let long : length new ≡ length buf + size_of kind_here = rw put (omega (arith, length-append buf (big_bytes (size_of kind_here) (residue kind_here n)), length-bytes_high_first (size_of kind_here) (residue kind_here n))) in
      omega (arith, size_step)

  pub numbers_more : (bytes : List ℕ) (at : ℕ) (values whole : List ℤ) (n : ℤ) → i < length values → n ≡ value kind_here (pos (big_number (size_of kind_here) (drop at bytes))) → take i values ++ payload_numbers (drop i kinds) (drop at bytes) ≡ whole → take (i + 1) (set values i n) ++ payload_numbers (drop (i + 1) kinds) (drop (at + size_of kind_here) bytes) ≡ whole
  numbers_more bytes at values whole n h' is before =
      let rest : List ℤ = payload_numbers (drop (i + 1) kinds) (drop (size_of kind_here) (drop at bytes)) in
      let left : drop (size_of kind_here) (drop at bytes) ≡ drop (at + size_of kind_here) bytes = drop-drop (size_of kind_here) at bytes in
      ap (λ (xs : List ℤ). xs ++ payload_numbers (drop (i + 1) kinds) (drop (at + size_of kind_here) bytes)) (take_more_set values i n h')
      ∙ ap (λ (xs : List ℕ). (take i values ++ n ∷ []) ++ payload_numbers (drop (i + 1) kinds) xs) (sym left)
      ∙ append_assoc (take i values) (n ∷ []) rest
      ∙ ap (λ (m : ℤ). take i values ++ m ∷ rest) is
      ∙ ap (λ (xs : List ℤ). take i values ++ xs) (sym (numbers_step (drop at bytes))) ∙ before

  pub size_more : (at whole : ℕ) → at + total_size (drop i kinds) ≡ whole → at + size_of kind_here + total_size (drop (i + 1) kinds) ≡ whole
  size_more at whole before = omega (arith, size_step)

  pub size_within : (at whole : ℕ) → at + total_size (drop i kinds) ≡ whole → at + size_of kind_here ≤ whole
  size_within at whole before = omega (arith, size_step)

-- ---- at the end

pub bytes_done : (kinds : List IntKind) (ns : List ℤ) (i : ℕ) (buf whole : List ℕ) → length kinds ≤ i → buf ++ payload_bytes (drop i kinds) (drop i ns) ≡ whole → buf ≡ whole
unfolding payload_bytes
bytes_done kinds ns i buf whole h e =
    let none : payload_bytes (drop i kinds) (drop i ns) ≡ [] = rw (drop_all i kinds h) refl in
    sym (append-nil buf) ∙ ap (λ (xs : List ℕ). buf ++ xs) (sym none) ∙ e

pub numbers_done : (kinds : List IntKind) (values whole : List ℤ) (bytes : List ℕ) (i : ℕ) → length kinds ≤ i → length values ≡ length kinds → take i values ++ payload_numbers (drop i kinds) bytes ≡ whole → values ≡ whole
unfolding payload_numbers
numbers_done kinds values whole bytes i h count e =
    let none : payload_numbers (drop i kinds) bytes ≡ [] = rw (drop_all i kinds h) refl in
    let all : take i values ≡ values = take_all i values (omega arith) in
    sym all ∙ sym (append-nil (take i values)) ∙ ap (λ (xs : List ℤ). take i values ++ xs) (sym none) ∙ e

-- numbers of their kinds with these bytes are those that the bytes are read as
pub only_numbers : (kinds : List IntKind) (ns : List ℤ) (bytes : List ℕ) → is_fitting kinds ns ≡ true → payload_bytes kinds ns ≡ bytes → ns ≡ payload_numbers kinds bytes
only_numbers kinds ns bytes e same = sym (numbers_return kinds ns [] e) ∙ ap (payload_numbers kinds) (append-nil (payload_bytes kinds ns) ∙ same)
