-- The texts that the program writes, and the numbers of its statuses.
use Rattle.std.specs.Prelude.{ℕ, List, [], ◌++◌, codes, slice_index_or}
use Rattle.std.specs.Fmt.{decimal, signed_decimal}
use Rattle.cl_tree.specs.declared.kinds.TrapCause.{TrapCause}
use Rattle.cl_tree.specs.declared.kinds.TrapCause.TheVariants.{Overflow, Divide, Shift, Index, Return, Steps, Depth, Output, Frames}
use Rattle.cl_mean.specs.declared.outcome.End.{End}
use Rattle.cl_mean.specs.declared.outcome.End.TheVariants.{Exit, Trapped}
use Rattle.cl_job.specs.declared.status.Status.{Status}
use Rattle.cl_job.specs.declared.status.Status.TheVariants as status
use Rattle.cl_rules.specs.declared.rule.Refusal.{Refusal}
use Rattle.cl_rules.specs.Shown.{shown}

unfoldable pub code_of : Status → ℕ
code_of status.Done = 0
code_of status.Trapped = 1
code_of status.Refused = 2
code_of status.ReadFault = 3
code_of status.WriteFault = 4
code_of status.NoMemory = 5
code_of status.Usage = 64

unfoldable pub usage_text : List ℕ
usage_text = codes "closure: usage: check SRC | divide SRC DIR | run [options] SRC [LEVEL=FILE ...] | drill N\n"

-- a refusal names the rule, the line and what fails
unfoldable pub refusal_text : Refusal → List ℕ
refusal_text refusal = codes "closure: " ++ (shown refusal ++ codes "\n")

unfoldable pub read_fault_text : List ℕ → List ℕ
read_fault_text path = codes "closure: cannot read " ++ path ++ codes "\n"

unfoldable pub write_fault_text : List ℕ → List ℕ
write_fault_text path = codes "closure: cannot write " ++ path ++ codes "\n"

unfoldable pub cause_word : TrapCause → List ℕ
cause_word Overflow = codes "overflow"
cause_word Divide = codes "divide"
cause_word Shift = codes "shift"
cause_word Index = codes "index"
cause_word Return = codes "return"
cause_word Steps = codes "steps"
cause_word Depth = codes "depth"
cause_word Output = codes "output"
cause_word Frames = codes "frames"

-- the line before the bytes of a level
unfoldable pub level_head : List ℕ → ℕ → List ℕ
level_head name count = codes "level " ++ (name ++ (codes " " ++ (decimal count ++ codes " bytes\n")))

-- the name of a level, by its number
unfoldable pub name_at : List (List ℕ) → ℕ → List ℕ
name_at names level = slice_index_or names level []

unfoldable pub end_text : List (List ℕ) → End → List ℕ
end_text names (Exit value) = codes "exit " ++ signed_decimal value
end_text names (Trapped level trap) =
    codes "trap " ++ (name_at names level ++ (codes " " ++ (cause_word trap.cause ++ (codes " line " ++ decimal trap.line))))

-- how many frames crossed, and how the run ended
unfoldable pub last_text : List (List ℕ) → ℕ → End → List ℕ
last_text names frames end = codes "frames " ++ (decimal frames ++ (codes "\nend " ++ (end_text names end ++ codes "\n")))
