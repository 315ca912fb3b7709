-- What places weigh.
use Rattle.std.proofs.Common.{◌≡◌, ℕ, suc, ◌+◌, ◌*◌, ◌-◌, ◌<◌, ◌≤◌, List, [], ◌∷◌, length, Option, Some, None, refl, arith}
use Rattle.std.specs.Prelude.{slice_get}
use Rattle.std.proofs.lemmas.Option.{slice_get_within}
use Rattle.en_image.specs.declared.image.Image.{Image}
use Rattle.en_image.specs.declared.instr.Instr.{Instr}
use Rattle.en_image.specs.declared.instr.Instr.TheVariants as instr
use Rattle.en_machine.specs.declared.phase.Phase.{Phase}
use Rattle.en_machine.specs.declared.phase.Phase.TheVariants.{Rests, Runs, Awaits}
use Rattle.en_machine.specs.declared.stopped.Caller.{Caller}
use Rattle.en_machine.specs.Steps.{Running}
use Rattle.machine_laws.specs.Left.{weight_of, weight, waiting, work_left}

weighs : (i : Instr) (n : ℕ) → 0 < n → weight_of (Some i) n ≤ n
weighs (instr.Push v) n h = omega arith
weighs (instr.Drop k) n h = omega arith
weighs instr.Copy n h = omega arith
weighs (instr.Global a) n h = omega arith
weighs (instr.Local a) n h = omega arith
weighs (instr.Borrowed a) n h = omega arith
weighs (instr.At count size line) n h = omega arith
weighs (instr.Offset k) n h = omega arith
weighs (instr.Fetch k) n h = omega arith
weighs (instr.Store k) n h = omega arith
weighs (instr.Clear at count) n h = omega arith
weighs (instr.Convert kind) n h = omega arith
weighs (instr.Two op kind line) n h = omega arith
weighs (instr.One op kind line) n h = omega arith
weighs (instr.Jump to) n h = omega arith
weighs (instr.Zero to) n h = omega arith
weighs (instr.Step line) n h = omega arith
weighs (instr.Call function line) n h = omega arith
weighs (instr.Return k) n h = omega arith
weighs (instr.Ask row line) n h = omega arith
weighs (instr.Byte v line) n h = omega arith
weighs (instr.Show form line) n h = omega arith
weighs instr.Get n h = omega arith
weighs (instr.Halt cause line) n h = omega arith

weight_at : (code : List Instr) (pc : ℕ) (o : Option Instr) → slice_get code pc ≡ o → weight_of o (length code - pc) ≤ length code - pc
weight_at code pc None e = omega arith
weight_at code pc (Some i) e = let h = slice_get_within code pc i e in weighs i (length code - pc) (omega arith)

-- no more than the instructions from there on
pub weight_small : (code : List Instr) (pc : ℕ) → weight code pc ≤ length code - pc
weight_small code pc = weight_at code pc (slice_get code pc) refl

pub few_wait : (code : List Instr) (cs : List Caller) → waiting code cs ≤ length code * length cs
few_wait code [] = omega arith
few_wait code (c ∷ cs) =
    let a = weight_small code c.back in let b = few_wait code cs in
    let e : length code * suc (length cs) ≡ length code + length code * length cs = omega arith in
    omega arith

pub steps_within : (i : Image) (p : Phase) (m : Running) → length i.code * m.left ≤ work_left i p m
steps_within i Rests m = omega arith
steps_within i Runs m = omega arith
steps_within i (Awaits row) m = omega arith
