use Rattle.std.proofs.Common.{◌≤◌, ◌<◌, length, sym, ◌∙◌, arith}
use Rattle.cle_names.proofs.Numbers.{number_here, number_step, number_end}
use Rattle.cle_names.proofs.tables.level_number.Goals as goal

pub returns-then-is_level-clause-number : goal.returns-then-is_level-clause-number
returns-then-is_level-clause-number c =
    let h : c.loop-known.known-index < length c.args.levels.now = omega arith in
    number_here c.args.levels.now c.args.level.now c.known-item.result c.loop-known.known-index c.loop-known.number _ h
    c.known-item.is (sym c.is_level.ensures ∙ c.if-is_level.true) c.loop-known.invariant.rest

pub loop-known-preserved : goal.loop-known-preserved
loop-known-preserved c =
    let h : c.loop-known.known-index < length c.args.levels.now = omega arith in
    record {
      counted = omega (arith, c.loop-known.invariant.counted);
      rest = number_step c.args.levels.now c.args.level.now c.known-item.result c.loop-known.known-index
          c.loop-known.number _ h c.known-item.is (sym c.is_level.ensures ∙ c.if-is_level.false) c.loop-known.invariant.rest;
    }

pub returns-clause-number : goal.returns-clause-number
returns-clause-number c =
    let h : length c.args.levels.now ≤ c.loop-known.known-index = omega arith in
    number_end c.args.levels.now c.args.level.now c.loop-known.known-index c.loop-known.number _ h
    c.loop-known.invariant.rest
