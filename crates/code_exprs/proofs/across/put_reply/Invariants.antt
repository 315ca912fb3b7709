use Rattle.std.proofs.Common.{◌≡◌, map, drop}
use Rattle.code_forms.specs.Lowering.{reply_code}
use Rattle.code_tables.specs.Types.{shape_in}
use Rattle.code_exprs.specs.Written.{pushed}
use Rattle.code_exprs.proofs.across.put_reply.Given as goal

abbrev pub invariant-loop-param : goal.invariant-loop-param
invariant-loop-param l =
    pushed (reply_code (map shape_in (drop l.param-index l.params)) l.at l.value) l.writer ≡ pushed (reply_code (map shape_in l.params) l.cell l.from) l.initial.writer
