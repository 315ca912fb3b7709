-- The image that asks is never stuck.
use Rattle.std.proofs.Common.{◌≡◌, ◌≢◌, ℕ, zero, suc, ◌+◌, ◌<◌, ◌^◌, List, [], ◌∷◌, ◌++◌, length, Option, Some, None, refl, ap, sym, ◌∙◌, subst, arith}
use Rattle.std.specs.Prelude.{Bool, true, false, ◌&&◌, nat_le, take, slice_get, slice_index_or, ℤ, pos, if◌then◌else◌}
use Rattle.std.proofs.lemmas.Bool.{false≢true, lt-ltb}
use Rattle.std.proofs.lemmas.Option.{slice_get_within, get_or_from_slice_get}
use Rattle.cl_base.specs.declared.limits.TheConstants.{FRAME_COST, OUTPUT_BYTES}
use Rattle.cl_tree.specs.Arithmetic.{fits, least, beyond, width, is_signed}
use Rattle.cl_tree.specs.declared.kinds.IntKind.TheVariants.{I32}
use Rattle.cl_tree.specs.declared.kinds.TrapCause.TheVariants.{Frames, Output}
use Rattle.en_image.specs.declared.image.Image.{Image}
use Rattle.en_machine.specs.declared.stopped.Stopped.{Stopped}
use Rattle.en_machine.specs.declared.stopped.Stopped.TheVariants.{Spent, Asks, Ended, Trapped}
use Rattle.en_machine.specs.declared.phase.Phase.{Phase}
use Rattle.en_machine.specs.declared.phase.Phase.TheVariants.{Rests, Runs, Awaits}
use Rattle.en_machine.specs.Cells.{pushed, has_last}
use Rattle.en_machine.specs.Work.{work}
use Rattle.en_machine.specs.Steps.{Running, Stepped, all_fit, can_ask, asked, returned, wrote, got, byte_or_end, read_on, control, act, step}
use Rattle.en_machine.specs.Begins.{started, served, resumed, blocked}
use Rattle.en_machine.specs.Phases.{phase_after}
use Rattle.en_machine.specs.Life.{Lived, AreBytes, opens, starts, serves, goes, resumes, blocks, NeverStuck, IsServed, fits_request, fits_reply}
use Rattle.machine_tests.specs.Asking.{asking}

-- what no test of an instruction reads
record World : Type 0 where
  read : ℕ
  output : List ℕ
  left : ℕ
  cost : ℕ
  values : List ℤ

-- below lies nothing, or the value that the row was served with
data Below : Type 0 where
  nothing : Below
  value : ℤ → Below

abbrev on : Below → List ℤ → List ℤ
on nothing xs = xs
on (value x) xs = x ∷ xs

abbrev at : ℕ → List ℤ → World → Running
at pc cells w = record { pc = pc; memory = record { frame = record { base = 0; limit = 2 }; cells = cells }; callers = []; read = w.read; output = w.output; left = w.left; cost = w.cost; values = w.values }

data IsAt (m : Running) : Type 0 where
  first : (b : Below) (w : World) → m ≡ at 0 (on b []) w → IsAt m
  second : (b : Below) (w : World) → m ≡ at 1 (on b []) w → IsAt m
  third : (b : Below) (v : ℤ) (w : World) → fits I32 v ≡ true → m ≡ at 2 (on b (v ∷ [])) w → IsAt m
  fourth : (b : Below) (v : ℤ) (w : World) → m ≡ at 3 (on b (v ∷ [])) w → IsAt m

abbrev Stands : Phase → Running → Type 0
Stands Rests m = Unit {0}
Stands Runs m = IsAt m
Stands (Awaits row) m = (row ≡ 0) × (b : Below) × (w : World) × (m ≡ at 3 (on b []) w)

-- a byte is written, as long as there is room
abbrev wrote_on : List ℕ → World → World
wrote_on bytes w = record w { output = bytes }

abbrev written : Bool → Below → World → Stepped
written t b w = if t then (Some Spent, at 1 (on b []) (wrote_on (w.output ++ 33 ∷ []) w))
    else (Some (Trapped (record { cause = Output; line = 2 })), at 1 (on b []) (wrote_on (take OUTPUT_BYTES (w.output ++ 33 ∷ [])) w))

after_byte : (input : List ℕ) (b : Below) (w : World) → step asking input (at 0 (on b []) w) ≡ written (nat_le (length w.output + 1) OUTPUT_BYTES) b w
unfolding step act work control wrote
after_byte input nothing w = refl
after_byte input (value x) w = refl

-- the next byte of the input is pushed
abbrev got_on : Option ℕ → World → World
got_on byte w = record w { read = read_on byte w.read }

after_get : (input : List ℕ) (b : Below) (w : World) → step asking input (at 1 (on b []) w) ≡ (Some Spent, at 2 (on b (byte_or_end (slice_get input w.read) ∷ [])) (got_on (slice_get input w.read) w))
unfolding step act work control got pushed
after_get input nothing w = refl
after_get input (value x) w = refl

small_fits : (b : ℕ) → b < 2 ^ 8 → fits I32 (pos b) ≡ true
unfolding fits least beyond width is_signed
small_fits b h = let t : b < 2147483648 = omega arith in lt-ltb b 2147483648 t

byte_of : (input : List ℕ) → AreBytes input → (n : ℕ) (o : Option ℕ) → slice_get input n ≡ o → fits I32 (byte_or_end o) ≡ true
unfolding fits least beyond width is_signed
byte_of input bytes n None e = refl
byte_of input bytes n (Some b) e = small_fits b (subst (λ (x : ℕ). x < 2 ^ 8) (get_or_from_slice_get input n b 0 e) (bytes n 0 (slice_get_within input n b e)))

byte_fits : (input : List ℕ) → AreBytes input → (n : ℕ) → fits I32 (byte_or_end (slice_get input n)) ≡ true
byte_fits input bytes n = byte_of input bytes n (slice_get input n) refl

-- a request is charged, as long as the budget has it
abbrev asked_to : ℤ → World → World
asked_to v w = record w { cost = w.cost + 8388608; values = v ∷ [] }

abbrev charged : Bool → Below → ℤ → World → Stepped
charged t b v w = if t then (Some (Asks 0), at 3 (on b []) (asked_to v w))
    else (Some (Trapped (record { cause = Frames; line = 4 })), at 3 (on b (v ∷ [])) w)

abbrev tried : Bool → Below → ℤ → World → Stepped
tried fit b v w = if (fit && true) && true then charged (nat_le (w.cost + 8388608) FRAME_COST) b v w else (None, at 3 (on b (v ∷ [])) w)

after_ask : (input : List ℕ) (b : Below) (v : ℤ) (w : World) → fits I32 v ≡ true → step asking input (at 2 (on b (v ∷ [])) w) ≡ charged (nat_le (w.cost + 8388608) FRAME_COST) b v w
unfolding step act work control asked can_ask has_last
after_ask input nothing v w e = ap (λ (f : Bool). tried f nothing v w) e
after_ask input (value x) v w e = ap (λ (f : Bool). tried f (value x) v w) e

after_return : (input : List ℕ) (b : Below) (v : ℤ) (w : World) → step asking input (at 3 (on b (v ∷ [])) w) ≡ (Some Ended, at 4 (on b []) (record w { values = v ∷ [] }))
unfolding step act work control returned has_last
after_return input nothing v w = refl
after_return input (value x) v w = refl

-- where an answer brings the machine
abbrev Comes : Option Stopped → Running → Type 0
Comes None to = ⊥
Comes (Some a) to = Stands (phase_after a) to

abbrev Leads : Stepped → Type 0
Leads s = Comes s.0 s.1

leads_written : (t : Bool) (b : Below) (w : World) → Leads (written t b w)
leads_written true b w = second b (wrote_on (w.output ++ 33 ∷ []) w) refl
leads_written false b w = tt

leads_charged : (t : Bool) (b : Below) (v : ℤ) (w : World) → Leads (charged t b v w)
leads_charged true b v w = (refl, b, asked_to v w, refl)
leads_charged false b v w = tt

abbrev world : Running → World
world m = record { read = m.read; output = m.output; left = m.left; cost = m.cost; values = m.values }

begins : (m : Running) → IsAt (started asking m)
unfolding started
begins m = first nothing (world m) refl

never : (t : Bool) → (t && false) ≡ true → ⊥
never true e = false≢true e
never false e = false≢true e

-- the values of the request, and of the reply, are one
one_of : (values : List ℤ) → all_fit (I32 ∷ []) values ≡ true → (v : ℤ) × (values ≡ v ∷ [])
one_of [] e = absurd (false≢true e)
one_of (v ∷ []) e = (v, refl)
one_of (v ∷ u ∷ us) e = absurd (never (fits I32 v) e)

served_at : (m : Running) (v : ℤ) → IsAt (served asking 0 (v ∷ []) m)
unfolding served
served_at m v = first (value v) (world m) refl

served_by : (m : Running) (row : ℕ) (values : List ℤ) → IsServed asking row → fits_request (slice_get asking.payloads row) values ≡ true → IsAt (served asking row values m)
served_by m zero values is e = let one = one_of values e in subst (λ (vs : List ℤ). IsAt (served asking 0 vs m)) (sym one.1) (served_at m one.0)
served_by m (suc row) values is e = absurd (false≢true e)

given : (b : Below) (v : ℤ) (w : World) → resumed asking (v ∷ []) (at 3 (on b []) w) ≡ at 3 (on b (v ∷ [])) w
given nothing v w = refl
given (value x) v w = refl

replied : (m : Running) (row : ℕ) (values : List ℤ) → Stands (Awaits row) m → fits_reply (slice_get asking.payloads row) values ≡ true → IsAt (resumed asking values m)
replied m zero values (is, b, w, e) fit =
    let one = one_of values fit in
    fourth b one.0 w (ap (λ (vs : List ℤ). resumed asking vs m) one.1 ∙ ap (resumed asking (one.0 ∷ [])) e ∙ given b one.0 w)
replied m (suc row) values stands fit = absurd (false≢true fit)

refused : (b : Below) (w : World) → blocked asking 0 (at 3 (on b []) w) ≡ at 3 (on b (slice_index_or w.values 0 (pos 0) ∷ [])) w
unfolding blocked
refused nothing w = refl
refused (value x) w = refl

was_blocked : (m : Running) (row : ℕ) → Stands (Awaits row) m → IsAt (blocked asking row m)
was_blocked m row (is, b, w, e) = fourth b (slice_index_or w.values 0 (pos 0)) w (ap (λ (r : ℕ). blocked asking r m) is ∙ ap (blocked asking 0) e ∙ refused b w)

module _ (input : List ℕ) (steps : ℕ) (bytes : AreBytes input) where
  goes_from : (m to : Running) → m ≡ to → Leads (step asking input to) → Leads (step asking input m)
  goes_from m to e l = subst (λ (x : Running). Leads (step asking input x)) (sym e) l

  leads : (m : Running) → IsAt m → Leads (step asking input m)
  leads m (first b w e) = goes_from m _ e (subst Leads (sym (after_byte input b w)) (leads_written _ b w))
  leads m (second b w e) = goes_from m _ e (subst Leads (sym (after_get input b w)) (third b (byte_or_end (slice_get input w.read)) (got_on (slice_get input w.read) w) (byte_fits input bytes w.read) refl))
  leads m (third b v w fit e) = goes_from m _ e (subst Leads (sym (after_ask input b v w fit)) (leads_charged _ b v w))
  leads m (fourth b v w e) = goes_from m _ e (subst Leads (sym (after_return input b v w)) (tt {0}))

  stands : {phase : Phase} {m : Running} → Lived asking input steps phase m → Stands phase m
  stands opens = tt
  stands (starts phase m l rests main) = begins m
  stands (serves phase m row values l rests is fit) = served_by m row values is fit
  stands (goes m to a l e) = subst Leads e (leads m (stands l))
  stands (resumes m row values l fit) = replied m row values (stands l) fit
  stands (blocks m row l) = was_blocked m row (stands l)

goes_on : (s : Stepped) → Leads s → s.0 ≢ None
goes_on (None, to) l e = l
goes_on (Some a, to) l e = let n : None ≡ Some a = sym e in absurd cc

pub never_stuck : NeverStuck asking
never_stuck input steps m bytes l = goes_on (step asking input m) (leads input steps bytes m (stands input steps bytes l))

pub safe : (i : Image) → i ≡ asking → NeverStuck i
safe i is = subst NeverStuck (sym is) never_stuck

-- a number that fits the row
pub reply_fits : (i : Image) → i ≡ asking → fits_reply (slice_get i.payloads 0) (pos 30 ∷ []) ≡ true
unfolding fits least beyond width is_signed
reply_fits i is = ap (λ (x : Image). fits_reply (slice_get x.payloads 0) (pos 30 ∷ [])) is

pub request_fits : (i : Image) → i ≡ asking → fits_request (slice_get i.payloads 0) (pos 9 ∷ []) ≡ true
unfolding fits least beyond width is_signed
request_fits i is = ap (λ (x : Image). fits_request (slice_get x.payloads 0) (pos 9 ∷ [])) is
