use Rattle.cl_tree.proofs.Ranges.{residue_size, cast_size}
use Rattle.cl_tree.proofs.arithmetic.bits.Goals as goal

pub overflow_cast-result : goal.overflow_cast-result
overflow_cast-result c = cast_size _ _ c.residue.ensures (residue_size c.args.kind _)
