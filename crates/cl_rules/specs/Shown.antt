-- How a refusal is printed.
use Rattle.std.specs.Prelude.{ℕ, ◌/◌, ◌%◌, List, ◌++◌, codes}
use Rattle.std.specs.Fmt.{decimal}
use Rattle.cl_rules.specs.declared.rule.Refusal.{Refusal}
use Rattle.cl_rules.specs.Rules.{rule_text}

-- the rule as `E` and its number in two digits, the line, and what fails
unfoldable pub shown : Refusal → List ℕ
shown refusal =
    codes "E"
    ++ (decimal (refusal.rule / 10)
    ++ (decimal (refusal.rule % 10)
    ++ (codes " at " ++ (decimal refusal.line ++ (codes ": " ++ rule_text refusal.rule)))))
