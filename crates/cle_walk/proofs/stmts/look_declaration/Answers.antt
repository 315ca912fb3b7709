use Rattle.std.proofs.Common.{◌++◌, ◌∙◌, sym, ap}
use Rattle.std.proofs.lemmas.List.{append-nil}
use Rattle.cle_ways.proofs.Parts.{on_any}
use Rattle.cle_walk.proofs.Silent.{declared_silent}
use Rattle.cle_walk.proofs.stmts.look_declaration.Goals as goal

pub returns-then-d-clause-notes : goal.returns-then-d-clause-notes
returns-then-d-clause-notes c =
    on_any c.bind_statics.result _
    (sym (append-nil c.args.notes.now.items)
    ∙ ap (λ xs. c.args.notes.now.items ++ xs) (sym (declared_silent c.args.program.now c.args.f c.args.d.now.is_static c.args.d.now.names c.args.spot.now c.if-d.true)))
