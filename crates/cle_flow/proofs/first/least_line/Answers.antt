use Rattle.std.proofs.Common.{◌+◌, List, take, subst, sym, Option, ℕ}
use Rattle.std.proofs.lemmas.List.{take_all}
use Rattle.cl_groups.specs.Marks.{IsLeast}
use Rattle.cle_ways.specs.declared.ways.Note.{Note}
use Rattle.cle_flow.specs.Judged.{Broken}
use Rattle.cle_flow.proofs.Least.{note_more}
use Rattle.cle_flow.proofs.first.least_line.Goals as goal

pub loop-note-preserved : goal.loop-note-preserved
loop-note-preserved c = subst (λ (o : Option ℕ). IsLeast (Broken c.args.judge.now.program c.args.rule (take (c.loop-note.note-index + 1) c.args.notes.now)) o) (sym c.lesser-least.ensures)
    (note_more c.args.judge.now.program c.args.rule c.args.notes.now c.loop-note.note-index c.note-item.result c.loop-note.least c.broken_line.result
    c.loop-note-test.true c.note-item.is c.loop-note.invariant c.broken_line.ensures)

pub returns : goal.returns
returns c = subst (λ (ns : List Note). IsLeast (Broken c.args.judge.now.program c.args.rule ns) c.loop-note.least)
    (take_all c.loop-note.note-index c.args.notes.now c.loop-note-test.false) c.loop-note.invariant
