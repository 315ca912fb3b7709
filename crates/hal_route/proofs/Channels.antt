-- The channels of rows, and the callers among them.
use Rattle.std.proofs.Common.{◌≡◌, ℕ, zero, suc, ◌+◌, ◌==◌, ◌<◌, ◌≤◌, Bool, true, false, List, [], ◌∷◌, ◌++◌, length, take, get_or, slice_get, Some, None, ◌&&◌, refl, sym, ap, ◌∙◌, add-one, arith, if◌then◌else◌}
use Rattle.std.proofs.lemmas.List.{length-map, take_more}
use Rattle.std.proofs.lemmas.List.FromFn.{length-enumerate_from}
use Rattle.std.proofs.lemmas.Option.{slice_get-map, slice_get_within, slice_get-get_or, get_or_from_slice_get}
use Rattle.std.specs.List.{enumerate_from, list_any}
use Rattle.cl_mean.specs.Journal.{mux_of, one_pair}
use Rattle.cl_mean.specs.declared.checked.GedlRow.{GedlRow}
use Rattle.hal_route.specs.declared.channel.Channel.{Channel}
use Rattle.hal_route.specs.Hal.{callers, channel_of, channels_of}

-- no more levels are callers than there are channels
pub callers_le : (cs : List Channel) → callers cs ≤ length cs
callers_le [] = omega arith
callers_le (c ∷ cs) = at_most (list_any (λ d. d.from == c.from) cs) (callers cs) (length cs) (callers_le cs)
  where
    at_most : (b : Bool) (m n : ℕ) → m ≤ n → (if b then 0 else 1) + m ≤ suc n
    at_most true m n h = omega arith
    at_most false m n h = omega arith

slice_get-enumerate_from : {X : Type 0} (n : ℕ) (xs : List X) (k : ℕ) (x : X) → slice_get xs k ≡ Some x → slice_get (enumerate_from n xs) k ≡ Some (n + k, x)
slice_get-enumerate_from n [] k x at = cc
slice_get-enumerate_from n (y ∷ ys) zero x at =
    let none : n + 0 ≡ n = omega arith in
    cc
slice_get-enumerate_from n (y ∷ ys) (suc k) x at =
    let more : n + 1 + k ≡ n + suc k = omega arith in
    let rest = slice_get-enumerate_from (n + 1) ys k x at in
    rw (← more) rest

-- channel k is that of row k
pub channel_at : (rows : List GedlRow) (k : ℕ) (row : GedlRow) → slice_get rows k ≡ Some row → slice_get (channels_of rows) k ≡ Some (channel_of row (mux_of rows k))
unfolding channels_of
channel_at rows k row at =
    let here : 0 + k ≡ k = omega arith in
    let place : slice_get (enumerate_from 0 rows) k ≡ Some (k, row) = rw here at (slice_get-enumerate_from 0 rows k row at) in
    rw (slice_get-map, place) refl

pub length-channels_of : (rows : List GedlRow) → length (channels_of rows) ≡ length rows
unfolding channels_of
length-channels_of rows = length-map (enumerate_from 0 rows) _ ∙ length-enumerate_from 0 rows

-- one more channel
pub take_channel : (rows : List GedlRow) (k mux : ℕ) (row : GedlRow) → slice_get rows k ≡ Some row → mux ≡ mux_of rows k → take (k + 1) (channels_of rows) ≡ take k (channels_of rows) ++ channel_of row mux ∷ []
take_channel rows k mux row at numbered =
    let within : k < length (channels_of rows) = rw length-channels_of (slice_get_within rows k row at) in
    let this : get_or (channels_of rows) k (channel_of row mux) ≡ channel_of row mux = get_or_from_slice_get _ k _ _ (channel_at rows k row at) ∙ ap (channel_of row) (sym numbered) in
    take_more (channels_of rows) k (channel_of row mux) within ∙ ap (λ (c : Channel). take k (channels_of rows) ++ c ∷ []) this

-- the number of the next row's pair
mux_of-suc : (rows : List GedlRow) (k : ℕ) (row next : GedlRow) → slice_get rows k ≡ Some row → slice_get rows (suc k) ≡ Some next → mux_of rows (suc k) ≡ mux_of rows k + one_pair row next
unfolding mux_of
mux_of-suc [] k row next here there = absurd (cc)
mux_of-suc (r ∷ []) k row next here there = absurd (cc)
mux_of-suc (r ∷ n ∷ rs) zero row next here there =
    let first : r ≡ row = cc in
    let second : n ≡ next = cc in
    rw (first, second) (omega arith)
mux_of-suc (r ∷ n ∷ rs) (suc k) row next here there =
    let rest = mux_of-suc (n ∷ rs) k row next here there in
    omega arith

pub mux_of-next : (rows : List GedlRow) (k mux : ℕ) (row next : GedlRow) → slice_get rows k ≡ Some row → Some next ≡ slice_get rows (k + 1) → mux ≡ mux_of rows k → mux + one_pair row next ≡ mux_of rows (k + 1)
mux_of-next rows k mux row next here there numbered =
    let behind : slice_get rows (suc k) ≡ Some next = rw add-one at (sym there) in
    rw (add-one, mux_of-suc rows k row next here behind, numbered) refl

pub mux_of-zero : (rows : List GedlRow) → 0 < length rows → 1 ≡ mux_of rows 0
unfolding mux_of
mux_of-zero [] some = absurd (omega arith)
mux_of-zero (r ∷ []) some = refl
mux_of-zero (r ∷ n ∷ rs) some = refl

-- a row within the list is in it
pub row_at : (rows : List GedlRow) (k : ℕ) (row : GedlRow) → k < length rows → row ≡ get_or rows k row → slice_get rows k ≡ Some row
row_at rows k row within is = slice_get-get_or rows k row within ∙ ap Some (sym is)

-- behind the last row there is none
pub last_row : (rows : List GedlRow) (k : ℕ) → None ≡ slice_get rows k → k < length rows → ⊥
last_row [] k none within = omega arith
last_row (r ∷ rs) zero none within = cc
last_row (r ∷ rs) (suc k) none within = last_row rs k none (omega arith)

-- the number of the pair grows by one at most
pub one_pair_le : (a b : GedlRow) → one_pair a b ≤ 1
one_pair_le a b = at_most ((a.from == b.from) && (a.to == b.to))
  where
    at_most : (b : Bool) → (if b then 0 else 1) ≤ 1
    at_most true = omega arith
    at_most false = omega arith
