use Rattle.std.proofs.Common.{nat_eq, arith}
use Rattle.std.proofs.lemmas.List.{length-drop}
use Rattle.std.proofs.lemmas.Grind.{common_steps}
use Rattle.std.specs.HashMap.{get}
use Rattle.std.specs.Cmp.Lexicographic.{pointwise}
use Rattle.cl_lex.specs.Found.{before}
use Rattle.cl_lex.proofs.Cuts.{none_yet, one_more, fails_by}
use Rattle.cl_lex.proofs.lex.lex_text.Goals as goal

pub loop-at-init : goal.loop-at-init
loop-at-init c = record {
  within = omega arith;
  sofar = none_yet c.args.text.now c.args.places.now c.new-out.result.items (λ q. get (pointwise nat_eq) c.new-defined.result q) c.new-out.ensures.items (λ q. grind (arith, common_steps, c.new-defined.ensures.empty));
}

pub loop-at-preserved : goal.loop-at-preserved
loop-at-preserved c =
    let p = c.in-Ok.ensures.good in
    let l = length-drop c.loop-at.at c.args.text.now in
    record {
      within = omega (arith, p.within);
      sofar = one_more c.args.text.now c.args.places.now c.loop-at.out.items c.add.new.out.items (before c.loop-at.fresh (λ q. get (pointwise nat_eq) c.loop-at.defined q)) c.in-Ok.piece.fresh (λ q. get (pointwise nat_eq) c.add.new.defined q) c.loop-at.at c.in-Ok.piece.len c.in-Ok.piece.found c.loop-at.invariant.within c.loop-at.invariant.sofar p c.in_ok-add-in-Ok.ensures.definitions c.in_ok-add-in-Ok.ensures.tokens;
    }

pub returns-in-Err-Fault-clause-fails : goal.returns-in-Err-Fault-clause-fails
returns-in-Err-Fault-clause-fails c =
    fails_by c.args.text.now c.args.places.now c.loop-at.out.items (before c.loop-at.fresh (λ q. get (pointwise nat_eq) c.loop-at.defined q)) c.loop-at.at c.in-Err-Fault.i c.in-Err-Fault.rule c.in-Err-Fault.field-0 c.number_of.result c.line_at.result c.loop-at.invariant.within c.loop-at.invariant.sofar c.in-Err-Fault.ensures.halt (cc) (cc (c.number_of.ensures)) (cc (c.line_at.ensures))
