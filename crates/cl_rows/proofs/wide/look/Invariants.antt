use Rattle.std.proofs.Common.{◌≡◌, drop}
use Rattle.cl_rows.specs.Bytes.{structs_in}
use Rattle.cl_rows.specs.Wide.{wide_by}
use Rattle.cl_rows.proofs.wide.look.Given as goal

abbrev pub invariant-loop-f : goal.invariant-loop-f
invariant-loop-f l = wide_by (structs_in l.bytes) l.typed l.called l.f (drop l.f l.functions) ≡ wide_by (structs_in l.bytes) l.typed l.called 0 l.functions
