use Rattle.std.proofs.Common.{sym, ◌∙◌}
use Rattle.std.proofs.lemmas.Bool.{false≢true}
use Rattle.cl_rows.proofs.Ordered.{passed_by}
use Rattle.cl_rows.proofs.rows.add.Goals as goal

pub returns : goal.returns
returns c =
    passed_by c.args.table.now.sources.typed.now c.args.table.now.sources.labels.now c.args.table.now.levels.now c.args.table.now.crossings.now c.args.from c.args.to c.args.f
    c.args.rows.now c.requires.rows (λ d h e g i. false≢true (sym c.if-calls.false ∙ c.calls.ensures.1 (d, (h, (e, (g, i))))))
