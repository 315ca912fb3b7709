use Rattle.std.proofs.Common.{◌<◌, All, sym, subst, arith}
use Rattle.cl_rows.specs.Marks.{AreMarks, numbers_of}
use Rattle.cl_rows.proofs.Called.{all_below}
use Rattle.cl_rows.proofs.Ordered.{put_together}
use Rattle.cl_rows.proofs.Ready.{ready}
use Rattle.cl_rows.proofs.rows.made.Goals as goal

pub callers-requires-clause-callees : goal.callers-requires-clause-callees
callers-requires-clause-callees c = all_below c.args.crossings.now _ 4096 c.requires.few c.requires.callees

pub rows_of-requires-clause-table : goal.rows_of-requires-clause-table
rows_of-requires-clause-table c = record {
  known = c.in_ok-bytes.ensures.known;
  items = c.in_ok-bytes.ensures.items;
  levels = c.requires.levels;
  few = omega (arith, c.len.ensures, c.requires.few);
  callees = subst (λ n. All (λ d. d.callee < n) c.args.crossings.now) (sym c.len.ensures) c.requires.callees;
  marks = subst (AreMarks (numbers_of c.args.levels.now c.args.crossings.now)) (sym c.as_slice.ensures.value) c.in_ok-callers.ensures;
  ready = ready c.args.typed.now c.args.labels.now c.args.levels.now c.args.crossings.now c.requires.typed c.requires.callees c.requires.entries c.requires.narrow;
}

pub returns : goal.returns
returns c =
    put_together c.args.typed.now c.args.labels.now c.args.levels.now c.args.crossings.now c.requires.crossings c.with_levels.result c.in_ok-rows.rows
    c.requires.levels c.in_ok-rows.ensures c.with_levels.ensures.levels c.with_levels.ensures.main c.with_levels.ensures.rows
