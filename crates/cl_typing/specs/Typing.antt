-- A typed program: its facts, and the rules in their order.
use Rattle.std.specs.Prelude.{◌≡◌, ℕ, List, [], ◌∷◌}
use Rattle.cl_tree.specs.declared.tree.Program.{Program}
use Rattle.cl_mean.specs.declared.checked.Typed.{Typed}
use Rattle.cl_typing.specs.declared.sought.Sought.TheVariants.{Pointers, Reals}
use Rattle.cl_typing.specs.Rules.{Rule, rule, AllHold, FirstFails}
use Rattle.cl_typing.specs.Tokens.{program_tokens}
use Rattle.cl_typing.specs.Twice.{twice}
use Rattle.cl_typing.specs.Unknown.{unknown}
use Rattle.cl_typing.specs.Wrong.{wrong}
use Rattle.cl_typing.specs.Sizes.{too_large}
use Rattle.cl_typing.specs.Facts.{functions_of, objects_of, no_main}

-- the rules of names, types and sizes, in the order in which they are looked at
abbrev pub rules : Program → List Rule
rules p = rule 8 (program_tokens Pointers p) ∷ rule 9 (program_tokens Reals p) ∷ rule 19 (twice p) ∷ rule 18 (unknown p)
    ∷ rule 20 (wrong p) ∷ rule 21 (too_large p) ∷ rule 22 (no_main p) ∷ []

-- A program is typed where every rule holds, with its functions and its objects of static duration.
pub record IsTyped (program : Program) (typed : Typed) : Type 0 where
  pub holds : AllHold (rules program)
  pub same : typed.program ≡ program
  pub functions : typed.functions ≡ functions_of program
  pub objects : typed.objects ≡ objects_of program

abbrev pub TypingFails : Program → ℕ → ℕ → Type 0
TypingFails program number line = FirstFails (rules program) number line
