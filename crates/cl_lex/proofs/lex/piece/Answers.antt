use Rattle.std.proofs.Common.{take, nat_eq, inr}
use Rattle.std.specs.HashMap.{get}
use Rattle.std.specs.Cmp.Lexicographic.{pointwise}
use Rattle.cl_lex.specs.Found.{before}
use Rattle.cl_lex.proofs.Cuts.{flaw_from}
use Rattle.cl_lex.proofs.lex.piece.Goals as goal

pub returns-in-Some-clause-halt : goal.returns-in-Some-clause-halt
returns-in-Some-clause-halt c =
    let s = before c.args.fresh (λ q. get (pointwise nat_eq) c.args.defined.now q) in
    inr (take c.in-Ok.n c.args.text.now, c.in-Ok.ensures.taken, flaw_from s (take c.in-Ok.n c.args.text.now) c.in_ok-found.found c.in-Some.rule c.in-Some.i c.in_ok-found.ensures cc)
