use Rattle.std.proofs.Common.{◌<◌, sym, ◌∙◌, arith, inl}
use Rattle.cl_lex.proofs.Taken.{run_taken, close_taken, close_stuck, opening_within, space_taken, punct_taken, punct_stuck, other_stuck}
use Rattle.cl_lex.proofs.lex.piece_len.Goals as goal

pub closing-requires : goal.closing-requires
closing-requires c = let h = opening_within c.args.fresh c.in-Closes.kind c.args.text.now c.requires (sym c.in-Closes.ensures) in omega arith

pub returns-in-Runs-clause-taken : goal.returns-in-Runs-clause-taken
returns-in-Runs-clause-taken c = run_taken c.args.fresh c.in-Runs.run' c.args.text.now c.run_len.result c.requires (sym c.in-Runs.ensures) c.run_len.ensures.value

pub returns-in-Some : goal.returns-in-Some
returns-in-Some c =
    let t = close_taken c.args.fresh c.in-Closes.kind c.args.text.now c.in-Some.n c.requires (sym c.in-Closes.ensures) (sym (rw c.opening_len.ensures at c.in-Some.ensures)) in
    record { taken = t.0; within = (t.1, t.2); stuck = tt }

pub returns-in-None-clause-stuck : goal.returns-in-None-clause-stuck
returns-in-None-clause-stuck c =
    let s = close_stuck c.args.fresh c.in-Closes.kind c.args.text.now c.requires (sym c.in-Closes.ensures) (sym (rw c.opening_len.ensures at c.in-None.ensures)) in
    inl (c.in-Closes.kind, s, sym c.unfinished.ensures)

pub returns-in-Space-clause-taken : goal.returns-in-Space-clause-taken
returns-in-Space-clause-taken c = space_taken c.args.fresh c.args.text.now c.requires (sym c.in-Space.ensures)

pub returns-then-n-eq0-clause-stuck : goal.returns-then-n-eq0-clause-stuck
returns-then-n-eq0-clause-stuck c = punct_stuck c.args.fresh c.args.text.now c.requires (sym c.in-Punct.ensures) (sym c.mark_len-n.ensures ∙ c.if-n-eq0.true)

pub returns-else-n-eq0 : goal.returns-else-n-eq0
returns-else-n-eq0 c =
    let p : 0 < c.mark_len-n.result = omega arith in
    let t = punct_taken c.args.fresh c.args.text.now c.mark_len-n.result (sym c.in-Punct.ensures) (sym c.mark_len-n.ensures) p in
    record { taken = t.0; within = (p, t.1); stuck = tt }

pub returns-in-Other-clause-stuck : goal.returns-in-Other-clause-stuck
returns-in-Other-clause-stuck c = other_stuck c.args.fresh c.args.text.now c.requires (sym c.in-Other.ensures)
