-- How much work is left of a machine.
use Rattle.std.specs.Prelude.{◌≡◌, ℕ, true, nat_le, ◌+◌, ◌*◌, ◌-◌, ◌<◌, List, [], ◌∷◌, length, Option, Some, None, slice_get}
use Rattle.en_image.specs.declared.image.Image.{Image}
use Rattle.en_image.specs.declared.image.Entrance.{Entrance}
use Rattle.en_image.specs.declared.instr.Instr.{Instr}
use Rattle.en_image.specs.declared.instr.Instr.TheVariants as instr
use Rattle.en_machine.specs.declared.phase.Phase.{Phase}
use Rattle.en_machine.specs.declared.phase.Phase.TheVariants.{Rests, Runs, Awaits}
use Rattle.en_machine.specs.declared.stopped.Caller.{Caller}
use Rattle.en_machine.specs.Steps.{Running}

-- what a place weighs: the instructions from there on, and one where a step is counted
abbrev pub weight_of : Option Instr → ℕ → ℕ
weight_of (Some (instr.Step line)) n = 1
weight_of _ n = n

abbrev pub weight : List Instr → ℕ → ℕ
weight code pc = weight_of (slice_get code pc) (length code - pc)

-- the places at which the calls that wait go on
abbrev pub waiting : List Instr → List Caller → ℕ
waiting code [] = 0
waiting code (c ∷ cs) = weight code c.back + waiting code cs

abbrev pub places : List Instr → Running → ℕ
places code m = weight code m.pc + waiting code m.callers

-- the work left of a machine: the code's length for each step that is left, and the weights of the places at which its
-- functions go on; at rest there are none
abbrev pub work_left : Image → Phase → Running → ℕ
work_left i Rests m = length i.code * m.left
work_left i Runs m = length i.code * m.left + places i.code m
work_left i (Awaits row) m = length i.code * m.left + places i.code m

-- a jump goes on in the code, or back to where a step is counted
abbrev pub Falls : List Instr → ℕ → Instr → Type 0
Falls code pc (instr.Jump to) = weight code to < length code - pc
Falls code pc (instr.Zero to) = weight code to < length code - pc
Falls code pc _ = Unit {0}

abbrev pub AllFall : List Instr → Type 0
AllFall code = (pc : ℕ) (i : Instr) → slice_get code pc ≡ Some i → Falls code pc i

-- the entrance is there, and its frame has room for so many values beside its locals
abbrev pub CanBegin : Option Entrance → ℕ → Type 0
CanBegin None n = ⊥
CanBegin (Some e) n = nat_le (n + e.locals) e.cells ≡ true
