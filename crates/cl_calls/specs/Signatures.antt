-- How the functions of a typed program are defined.
use Rattle.std.specs.Prelude.{ℕ, List, slice_index_or}
use Rattle.cl_mean.specs.declared.checked.Typed.{Typed}
use Rattle.cl_mean.specs.Source.{no_item}
use Rattle.cl_labelling.specs.Fits.{Signature, defined_by}
use Rattle.cl_levels.specs.Levels.{no_fact}

-- the signature that the function of a number is defined with
abbrev pub signatures_in : Typed → ℕ → List Signature
signatures_in typed f = defined_by (slice_index_or typed.program.items (slice_index_or typed.functions f no_fact).item no_item)
