use Rattle.std.proofs.Common.{◌≡◌, map, drop}
use Rattle.code_forms.specs.Lowering as l
use Rattle.code_tables.specs.Types.{shape_in}
use Rattle.code_tables.specs.Facts.{facts_by}
use Rattle.code_tables.specs.Table.{bounds}
use Rattle.code_exprs.specs.Written.{wrote}
use Rattle.code_exprs.proofs.exprs.+emit.Given as goal

abbrev pub invariant-emit_arguments-loop-k : goal.invariant-emit_arguments-loop-k
invariant-emit_arguments-loop-k l' =
    wrote (l.arguments (map shape_in (drop l'.k l'.params)) (map (l.lowered (facts_by l'.facts) (bounds l'.names)) (drop l'.k l'.all))) l'.at l'.writer
    ≡ wrote (l.arguments (map shape_in l'.params) (map (l.lowered (facts_by l'.facts) (bounds l'.names)) l'.all)) l'.top l'.initial.writer
