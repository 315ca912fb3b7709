use Rattle.std.proofs.Common.{ap, sym, ◌∙◌}
use Rattle.cl_mean.specs.Shape.{times}
use Rattle.rpc_codec.proofs.Structs.{shape_of_array, spread_of_array}
use Rattle.rpc_codec.proofs.leaves.+base_of.Goals as goal

pub returns-in-Array : goal.returns-in-Array
returns-in-Array t c structs on path =
    shape_of_array structs _ _ _ on path c.in-Array.is ∙ ap (times _) (rw c.get.ensures at c.base_of.ensures structs on path) ∙ sym (spread_of_array _ _ _ _ c.in-Array.is)
