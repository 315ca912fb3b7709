use Rattle.std.proofs.Common.{◌≡◌, ◌≤◌, drop, length}
use Rattle.cl_typing.specs.declared.format.Part.TheVariants.{Text}
use Rattle.cl_types.specs.Views.{fits_from}
use Rattle.cl_types.proofs.calls.format_fits.Given as goal

abbrev pub invariant-loop-b : goal.invariant-loop-b
invariant-loop-b l = record {
  rest : fits_from l.tags l.names l.part (drop l.b-index l.format) (drop l.taken l.arguments)
      ≡ fits_from l.tags l.names Text l.format l.arguments;
  within : l.taken ≤ length l.arguments;
}
