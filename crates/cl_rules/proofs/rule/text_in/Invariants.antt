use Rattle.std.proofs.Common.{◌≡◌, map, length}
use Rattle.cl_rules.specs.Rules.{row, text_in}
use Rattle.cl_rules.proofs.rule.text_in.Given as goal

abbrev pub invariant-loop-table : goal.invariant-loop-table
invariant-loop-table l =
    text_in (map (λ entry. row entry.0 entry.1.now) l.table) l.number
    ≡ text_in (map (λ entry. row entry.0 entry.1.now) l.initial.table) l.number

abbrev pub decreases-loop-table : goal.decreases-loop-table
decreases-loop-table l = length l.table
