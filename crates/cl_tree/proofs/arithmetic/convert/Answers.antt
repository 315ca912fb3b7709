use Rattle.std.proofs.Common.{arith, to_z, of_z}
use Rattle.std.proofs.lemmas.Int.{ints}
use mir.Syntax.{w128}
use Rattle.cl_tree.proofs.Ranges.{Ends, ends, fits_in, residue_lt}
use Rattle.cl_tree.proofs.arithmetic.convert.Goals as goal

pub returns-then-left-beyond-clause-fits : goal.returns-then-left-beyond-clause-fits
returns-then-left-beyond-clause-fits c =
    let k : Ends c.args.kind = ends c.args.kind in
    fits_in c.args.kind (to_z w128 (of_z w128 c.residue-left.result)) (omega (arith, ints, residue_lt)) (omega (arith, ints, residue_lt))

pub returns-else-left-beyond-clause-fits : goal.returns-else-left-beyond-clause-fits
returns-else-left-beyond-clause-fits c =
    let k : Ends c.args.kind = ends c.args.kind in
    fits_in c.args.kind _ (omega (arith, ints, residue_lt)) (omega (arith, ints, residue_lt))
