use Rattle.std.proofs.Common.{◌≡◌, ◌≤◌, drop, length}
use Rattle.cl_typing.specs.Scope.{with_names}
use Rattle.cl_typing.specs.Twice.{fields_twice}
use Rattle.cl_scope.specs.Table.{since}
use Rattle.cl_twice.proofs.items.look_fields.Given as goal

abbrev pub invariant-loop-d : goal.invariant-loop-d
invariant-loop-d l = record {
  rest : fields_twice (since l.start l.fields) (drop l.d-index l.ds)
      ≡ fields_twice (since l.start l.initial.fields) l.ds;
  fields : with_names (drop l.d-index l.ds) l.fields ≡ with_names l.ds l.initial.fields;
  entered : l.start ≤ length l.fields;
}
