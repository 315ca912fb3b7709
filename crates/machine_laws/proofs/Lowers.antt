-- Each instruction lowers the work that is left.
use Rattle.std.proofs.Common.{◌≡◌, ◌≢◌, ℕ, zero, suc, ◌+◌, ◌*◌, ◌-◌, ◌<◌, ◌≤◌, List, [], ◌∷◌, length, Option, Some, None, Result, Ok, Err, refl, sym, ap, subst, arith}
use Rattle.std.specs.Prelude.{Bool, true, false, nat_lt, nat_le, slice_get, ℤ, if◌then◌else◌}
use Rattle.std.proofs.lemmas.Bool.{ltb-true}
use Rattle.std.proofs.lemmas.Option.{slice_get_within}
use Rattle.cl_base.specs.declared.limits.TheConstants.{ACTIVE_CALLS, OUTPUT_BYTES, FRAME_COST}
use Rattle.cl_tree.specs.Arithmetic.{is_zero}
use Rattle.cl_tree.specs.declared.kinds.TrapCause.TheVariants.{Steps, Depth, Frames}
use Rattle.en_image.specs.declared.image.Image.{Image}
use Rattle.en_image.specs.declared.image.Entrance.{Entrance}
use Rattle.en_image.specs.declared.image.Payload.{Payload}
use Rattle.en_image.specs.declared.instr.Form.{Form}
use Rattle.en_image.specs.declared.instr.Instr.{Instr}
use Rattle.en_image.specs.declared.instr.Instr.TheVariants as instr
use Rattle.en_image.specs.Printing.{text}
use Rattle.en_machine.specs.declared.memory.Stop.{Stop}
use Rattle.en_machine.specs.declared.memory.Stop.TheVariants.{Stuck, Trap}
use Rattle.en_machine.specs.declared.phase.Phase.{Phase}
use Rattle.en_machine.specs.declared.phase.Phase.TheVariants.{Rests, Runs, Awaits}
use Rattle.en_machine.specs.declared.stopped.Caller.{Caller}
use Rattle.en_machine.specs.declared.stopped.Stopped.{Stopped}
use Rattle.en_machine.specs.declared.stopped.Stopped.TheVariants.{Spent, Asks, Ended, Trapped}
use Rattle.en_image.specs.Lines.{line_of}
use Rattle.en_machine.specs.Cells.{Held, Work, popped, pushed, dropped, copied, global, local, borrowed, fetched, stored, cleared, element, offset, converted, operated, operated_one, has_last, back_in}
use Rattle.en_machine.specs.Work.{work}
use Rattle.en_machine.specs.Steps.{Running, Stepped, goes_on, stuck, traps, on_cells, counted, branched, can_enter, entered, called_at, called, with_values, left_to, returned, price, can_ask, asked_of, asked, wrote, showed, byte_or_end, read_on, got, control, act, act_at, step}
use Rattle.en_machine.specs.Runs.{runs, then_runs}
use Rattle.en_machine.specs.Phases.{phase_after}
use Rattle.machine_laws.specs.Left.{weight_of, weight, waiting, work_left, Falls, AllFall}
use Rattle.machine_laws.proofs.Weights.{weight_small, few_wait}

-- one step less pays for the weight of one place, or of two
one_step : (size left a others : ℕ) → 0 < left → a < size → size * (left - 1) + (a + others) < size * left + (1 + others)
one_step size zero a others h k = absurd (omega arith)
one_step size (suc n) a others h k =
    let e : suc n - 1 ≡ n = omega arith in
    subst (λ (l : ℕ). size * l + (a + others) < size * suc n + (1 + others)) (sym e) (omega arith)

two_places : (size left a b here others : ℕ) → 0 < left → a ≤ size → b < here → size * (left - 1) + (a + (b + others)) < size * left + (here + others)
two_places size zero a b here others h k l = absurd (omega arith)
two_places size (suc n) a b here others h k l =
    let e : suc n - 1 ≡ n = omega arith in
    subst (λ (x : ℕ). size * x + (a + (b + others)) < size * suc n + (here + others)) (sym e) (omega arith)

module _ (i : Image) where
  -- what an answer leaves of the work
  abbrev Leaves : ℕ → Option Stopped → Running → Type 0
  Leaves n None to = Unit {0}
  Leaves n (Some a) to = work_left i (phase_after a) to < n

  abbrev Lowers : ℕ → Stepped → Type 0
  Lowers n s = Leaves n s.0 s.1

  lowers_if : (n : ℕ) (b : Bool) (x y : Stepped) → (b ≡ true → Lowers n x) → Lowers n y → Lowers n (if b then x else y)
  lowers_if n true x y h k = h refl
  lowers_if n false x y h k = k

  module _ (m : Running) (within : m.pc < length i.code) where
    abbrev size : ℕ
    size = length i.code

    -- the machine at the next place
    abbrev next : Running
    next = record m { pc = suc m.pc }

    abbrev before : ℕ
    before = work_left i Runs m

    -- an instruction that counts no step
    abbrev IsHeavy : Type 0
    IsHeavy = weight i.code m.pc ≡ size - m.pc

    on : IsHeavy → size * m.left + (weight i.code (suc m.pc) + waiting i.code m.callers) < before
    on heavy = let b = weight_small i.code (suc m.pc) in omega arith

    rests : IsHeavy → size * m.left < before
    rests heavy = omega arith

    lowers_cells : (r : Result (Unit {0}) Stop) (h : Held) (line read : ℕ) → IsHeavy → Lowers before (on_cells (r, h) line (record next { read = read }))
    lowers_cells (Ok u) h line read heavy = on heavy
    lowers_cells (Err Stuck) h line read heavy = tt
    lowers_cells (Err (Trap cause)) h line read heavy = rests heavy

    lowers_work : (w : Work (Unit {0})) (line : ℕ) → IsHeavy → Lowers before (on_cells w line next)
    lowers_work w line heavy = lowers_cells w.0 w.1 line m.read heavy

    lowers_to : (to : ℕ) → IsHeavy → weight i.code to < size - m.pc → size * m.left + (weight i.code to + waiting i.code m.callers) < before
    lowers_to to heavy falls = omega arith

    lowers_zero : (b : Bool) (to : ℕ) (h : Held) → IsHeavy → weight i.code to < size - m.pc → Lowers before (goes_on (if b then record m { pc = to; memory = h } else record next { memory = h }))
    lowers_zero true to h heavy falls = lowers_to to heavy falls
    lowers_zero false to h heavy falls = on heavy

    lowers_branched : (r : Result ℤ Stop) (to : ℕ) (h : Held) → IsHeavy → weight i.code to < size - m.pc → Lowers before (branched r to (record next { memory = h }))
    lowers_branched (Ok n) to h heavy falls = lowers_zero (is_zero n) to h heavy falls
    lowers_branched (Err e) to h heavy falls = tt

    lowers_counted : (line : ℕ) → weight i.code m.pc ≡ 1 → Lowers before (counted line next)
    unfolding counted
    lowers_counted line light = lowers_if before (nat_lt 0 m.left) (goes_on (record next { left = m.left - 1 })) (traps Steps line next)
        (λ t. let some : 0 < m.left = ltb-true 0 m.left t in
        let b = weight_small i.code (suc m.pc) in
        let less = one_step size m.left (weight i.code (suc m.pc)) (waiting i.code m.callers) some (omega arith) in
        omega arith)
        (omega arith)

    lowers_called : (o : Option (Option Entrance)) (line : ℕ) → IsHeavy → Lowers before (called_at o line next)
    lowers_called None line heavy = tt
    lowers_called (Some None) line heavy = tt
    lowers_called (Some (Some e)) line heavy =
        let enters : Stepped = goes_on (entered e next) in
        let steps : Stepped = if nat_lt 0 m.left then enters else traps Steps line next in
        lowers_if before (can_enter e m.memory) (if nat_lt (length m.callers) ACTIVE_CALLS then steps else traps Depth line next) (stuck next)
        (λ c. lowers_if before (nat_lt (length m.callers) ACTIVE_CALLS) steps (traps Depth line next)
        (λ d. lowers_if before (nat_lt 0 m.left) enters (traps Steps line next)
        (λ t. let some : 0 < m.left = ltb-true 0 m.left t in
        let a = weight_small i.code e.at in let b = weight_small i.code (suc m.pc) in
        let less = two_places size m.left (weight i.code e.at) (weight i.code (suc m.pc)) (size - m.pc) (waiting i.code m.callers) some (omega arith) (omega arith) in
        omega arith)
        (rests heavy))
        (rests heavy))
        (tt {0})

    lowers_left : (cs : List Caller) (n : ℕ) → m.callers ≡ cs → IsHeavy → Lowers before (left_to cs n next)
    lowers_left [] n e heavy = rests heavy
    lowers_left (c ∷ cs) n e heavy =
        let same : waiting i.code m.callers ≡ weight i.code c.back + waiting i.code cs = ap (waiting i.code) e in
        lowers_if before (nat_le (m.memory.frame.base + n) c.frame.limit) (goes_on (record next { pc = c.back; memory = back_in c.frame n m.memory; callers = cs })) (stuck next)
        (λ t. omega arith)
        (tt {0})

    lowers_returned : (n : ℕ) → IsHeavy → Lowers before (returned n next)
    unfolding returned
    lowers_returned n heavy = lowers_if before (has_last n m.memory) (left_to m.callers n next) (stuck next) (λ t. lowers_left m.callers n refl heavy) (tt {0})

    lowers_asked : (o : Option Payload) (row line : ℕ) → IsHeavy → Lowers before (asked_of o row line next)
    lowers_asked None row line heavy = tt
    lowers_asked (Some p) row line heavy =
        let asks : Stepped = (Some (Asks row), with_values (length p.request) (record next { cost = m.cost + price p })) in
        lowers_if before (can_ask p m.memory) (if nat_le (m.cost + price p) FRAME_COST then asks else traps Frames line next) (stuck next)
        (λ c. lowers_if before (nat_le (m.cost + price p) FRAME_COST) asks (traps Frames line next) (λ t. on heavy) (rests heavy))
        (tt {0})

    lowers_wrote : (bytes : List ℕ) (line : ℕ) (h : Held) → IsHeavy → Lowers before (wrote bytes line (record next { memory = h }))
    unfolding wrote
    lowers_wrote bytes line h heavy = lowers_if before (nat_le (length m.output + length bytes) OUTPUT_BYTES) _ _ (λ t. on heavy) (rests heavy)

    lowers_showed : (r : Result ℤ Stop) (form : Form) (line : ℕ) (h : Held) → IsHeavy → Lowers before (showed r form line (record next { memory = h }))
    lowers_showed (Ok n) form line h heavy = lowers_wrote (text form n) line h heavy
    lowers_showed (Err e) form line h heavy = tt

    module _ (input : List ℕ) where
      heavy_at : (it : Instr) → slice_get i.code m.pc ≡ Some it → weight i.code m.pc ≡ weight_of (Some it) (size - m.pc)
      heavy_at it e = ap (λ (o : Option Instr). weight_of o (size - m.pc)) e

      lowers_act : (it : Instr) → slice_get i.code m.pc ≡ Some it → Falls i.code m.pc it → Lowers before (act i input it next)
      unfolding act work control called asked got line_of
      lowers_act (instr.Push v) e falls = lowers_work (pushed v m.memory) 0 (heavy_at (instr.Push v) e)
      lowers_act (instr.Drop k) e falls = lowers_work (dropped k m.memory) 0 (heavy_at (instr.Drop k) e)
      lowers_act instr.Copy e falls = lowers_work (copied m.memory) 0 (heavy_at instr.Copy e)
      lowers_act (instr.Global a) e falls = lowers_work (global (length i.statics) a m.memory) 0 (heavy_at (instr.Global a) e)
      lowers_act (instr.Local a) e falls = lowers_work (local a m.memory) 0 (heavy_at (instr.Local a) e)
      lowers_act (instr.Borrowed a) e falls = lowers_work (borrowed a m.memory) 0 (heavy_at (instr.Borrowed a) e)
      lowers_act (instr.At count z line) e falls = lowers_work (element count z m.memory) line (heavy_at (instr.At count z line) e)
      lowers_act (instr.Offset k) e falls = lowers_work (offset k m.memory) 0 (heavy_at (instr.Offset k) e)
      lowers_act (instr.Fetch k) e falls = lowers_work (fetched k m.memory) 0 (heavy_at (instr.Fetch k) e)
      lowers_act (instr.Store k) e falls = lowers_work (stored k m.memory) 0 (heavy_at (instr.Store k) e)
      lowers_act (instr.Clear at count) e falls = lowers_work (cleared at count m.memory) 0 (heavy_at (instr.Clear at count) e)
      lowers_act (instr.Convert kind) e falls = lowers_work (converted kind m.memory) 0 (heavy_at (instr.Convert kind) e)
      lowers_act (instr.Two op kind line) e falls = lowers_work (operated op kind m.memory) line (heavy_at (instr.Two op kind line) e)
      lowers_act (instr.One op kind line) e falls = lowers_work (operated_one op kind m.memory) line (heavy_at (instr.One op kind line) e)
      lowers_act (instr.Jump to) e falls = lowers_to to (heavy_at (instr.Jump to) e) falls
      lowers_act (instr.Zero to) e falls = lowers_branched (popped m.memory).0 to (popped m.memory).1 (heavy_at (instr.Zero to) e) falls
      lowers_act (instr.Step line) e falls = lowers_counted line (heavy_at (instr.Step line) e)
      lowers_act (instr.Call function line) e falls = lowers_called (slice_get i.functions function) line (heavy_at (instr.Call function line) e)
      lowers_act (instr.Return n) e falls = lowers_returned n (heavy_at (instr.Return n) e)
      lowers_act (instr.Ask row line) e falls = lowers_asked (slice_get i.payloads row) row line (heavy_at (instr.Ask row line) e)
      lowers_act (instr.Byte v line) e falls = lowers_wrote (v ∷ []) line m.memory (heavy_at (instr.Byte v line) e)
      lowers_act (instr.Show form line) e falls = lowers_showed (popped m.memory).0 form line (popped m.memory).1 (heavy_at (instr.Show form line) e)
      lowers_act instr.Get e falls = lowers_cells (pushed (byte_or_end (slice_get input m.read)) m.memory).0 (pushed (byte_or_end (slice_get input m.read)) m.memory).1 0 (read_on (slice_get input m.read) m.read) (heavy_at instr.Get e)
      lowers_act (instr.Halt cause line) e falls = rests (heavy_at (instr.Halt cause line) e)

  module _ (input : List ℕ) (fall : AllFall i.code) where
    at_place : (m : Running) (o : Option Instr) → slice_get i.code m.pc ≡ o → Lowers (work_left i Runs m) (act_at i input o m)
    at_place m None e = tt
    at_place m (Some it) e = lowers_act m (slice_get_within i.code m.pc it e) input it e (fall m.pc it e)

    step_leaves : (m : Running) → Lowers (work_left i Runs m) (step i input m)
    unfolding step
    step_leaves m = at_place m (slice_get i.code m.pc) refl

    -- of so many instructions
    abbrev Spends : ℕ → ℕ → Option Stopped → Running → Type 0
    Spends n w None to = Unit {0}
    Spends n w (Some Spent) to = work_left i Runs to + n ≤ w
    Spends n w (Some (Asks row)) to = work_left i (Awaits row) to < w
    Spends n w (Some Ended) to = work_left i Rests to < w
    Spends n w (Some (Trapped t)) to = work_left i Rests to < w

    less : (n w v : ℕ) (a : Option Stopped) (to : Running) → w < v → Spends n w a to → Spends (suc n) v a to
    less n w v None to h s = tt
    less n w v (Some Spent) to h s = omega arith
    less n w v (Some (Asks row)) to h s = omega arith
    less n w v (Some Ended) to h s = omega arith
    less n w v (Some (Trapped t)) to h s = omega arith

    then_spends : (n v : ℕ) (a : Option Stopped) (to : Running) (go : Running → Stepped) → Leaves v a to → ((t : Running) → Spends n (work_left i Runs t) (go t).0 (go t).1) → Spends (suc n) v (then_runs a to go).0 (then_runs a to go).1
    then_spends n v None to go l follow = tt
    then_spends n v (Some Spent) to go l follow = less n (work_left i Runs to) v (go to).0 (go to).1 l (follow to)
    then_spends n v (Some (Asks row)) to go l follow = l
    then_spends n v (Some Ended) to go l follow = l
    then_spends n v (Some (Trapped t)) to go l follow = l

    spends : (n : ℕ) (m : Running) → Spends n (work_left i Runs m) (runs i input n m).0 (runs i input n m).1
    spends zero m = omega arith
    spends (suc n) m = then_spends n (work_left i Runs m) (step i input m).0 (step i input m).1 (runs i input n) (step_leaves m) (spends n)

    other : (n w : ℕ) (a : Stopped) (to : Running) → a ≢ Spent → Spends n w (Some a) to → work_left i (phase_after a) to < w
    other n w Spent to ne s = absurd (ne refl)
    other n w (Asks row) to ne s = s
    other n w Ended to ne s = s
    other n w (Trapped t) to ne s = s

pub step_lowers : (i : Image) (input : List ℕ) (m to : Running) (a : Stopped) → AllFall i.code → step i input m ≡ (Some a, to) → work_left i (phase_after a) to < work_left i Runs m
step_lowers i input m to a fall e = subst (λ (s : Stepped). Lowers i (work_left i Runs m) s) e (step_leaves i input fall m)

pub spent_lowers : (i : Image) (input : List ℕ) (n : ℕ) (m to : Running) → AllFall i.code → runs i input n m ≡ (Some Spent, to) → work_left i Runs to + n ≤ work_left i Runs m
spent_lowers i input n m to fall e = subst (λ (s : Stepped). Spends i input fall n (work_left i Runs m) s.0 s.1) e (spends i input fall n m)

pub run_lowers : (i : Image) (input : List ℕ) (n : ℕ) (m to : Running) (a : Stopped) → AllFall i.code → a ≢ Spent → runs i input n m ≡ (Some a, to) → work_left i (phase_after a) to < work_left i Runs m
run_lowers i input n m to a fall ne e = other i input fall n (work_left i Runs m) a to ne (subst (λ (s : Stepped). Spends i input fall n (work_left i Runs m) s.0 s.1) e (spends i input fall n m))

pub work_bound : (i : Image) (p : Phase) (m : Running) → work_left i p m ≤ length i.code * (m.left + length m.callers + 1)
work_bound i Rests m = omega arith
work_bound i Runs m = let a = weight_small i.code m.pc in let b = few_wait i.code m.callers in omega arith
work_bound i (Awaits row) m = let a = weight_small i.code m.pc in let b = few_wait i.code m.callers in omega arith
