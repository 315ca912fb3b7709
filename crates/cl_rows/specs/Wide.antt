-- E30 over the signatures of functions.
use Rattle.std.specs.Prelude.{ℕ, suc, Bool, true, false, not, ◌==◌, ◌&&◌, ◌||◌, nat_le, List, [], ◌∷◌, ◌++◌, slice_index_or}
use Rattle.std.specs.List.{list_any}
use Rattle.cl_base.specs.declared.limits.TheConstants.{PAYLOAD_BYTES}
use Rattle.cl_mean.specs.declared.checked.FnFact.{FnFact}
use Rattle.cl_mean.specs.declared.checked.Typed.{Typed}
use Rattle.cl_mean.specs.Shape.{Structs, structs_of, kinds_of, total_size}
use Rattle.cl_typing.specs.Rules.{Lines, unless}
use Rattle.cl_labelling.specs.Fits.{Signature, payload}
use Rattle.cl_levels.specs.declared.uses.Call.{Call}
use Rattle.cl_calls.specs.Signatures.{signatures_in}

-- the bytes of a payload of the function that the first signature is of
abbrev pub size_in : Structs → List Signature → Bool → ℕ
size_in structs [] reply = 0
size_in structs (s ∷ ss) reply = total_size (kinds_of (payload structs s reply))

abbrev pub is_wide_in : Structs → List Signature → Bool
is_wide_in structs ss = not (nat_le (size_in structs ss false) PAYLOAD_BYTES) || not (nat_le (size_in structs ss true) PAYLOAD_BYTES)

-- a function that one of these calls is of has a wide payload
abbrev pub is_place : Typed → List Call → ℕ → Bool
is_place typed cs f = is_wide_in (structs_of typed.program.items) (signatures_in typed f) && list_any (λ c. c.callee == f) cs

unfoldable pub wide_in : Typed → List Call → ℕ → List FnFact → Lines
wide_in typed cs f [] = []
wide_in typed cs f (fact ∷ facts) = unless (not (is_place typed cs f)) fact.line ++ wide_in typed cs (suc f) facts

-- the functions that these calls are of and that have a wide payload, by their names
unfoldable pub too_wide_in : Typed → List Call → Lines
too_wide_in typed cs = wide_in typed cs 0 typed.functions

-- the same, where the functions that calls are of are marked
unfoldable pub wide_by : Structs → Typed → List Bool → ℕ → List FnFact → Lines
wide_by structs typed called f [] = []
wide_by structs typed called f (fact ∷ facts) =
    unless (not (is_wide_in structs (signatures_in typed f) && slice_index_or called f false)) fact.line ++ wide_by structs typed called (suc f) facts
