use Rattle.std.proofs.Common.{◌-◌, ◌/◌, drop, sym, ap, ◌∙◌, arith, length-set, drop_of_length-le}
use Rattle.std.specs.Prelude.{false}
use Rattle.std.specs.Fmt.{digits_onto}
use Rattle.en_image.proofs.Digits.{all_digits, first_digit, more_digits, digit_put}
use Rattle.en_image.proofs.printing.hex.Goals as goal

pub loop-at-init : goal.loop-at-init
loop-at-init c = record {
  within = omega arith;
  size = c.told-buffer;
  told = ap (digits_onto 64 16 false c.args.n) (drop_of_length-le c.args.buffer.now {i = 64} (omega (arith, c.told-buffer))) ∙ all_digits c.args.n;
}

pub loop-at-preserved : goal.loop-at-preserved
loop-at-preserved c =
    let l = c.loop-at in
    let put = digit_put l.buffer l.at c.glyph.result l.rest c.loop-at-test.true (omega (arith, l.invariant.size, l.invariant.within)) c.glyph.ensures in
    record {
      within = omega arith;
      size = length-set l.buffer (l.at - 1) c.glyph.result ∙ l.invariant.size;
      told = ap (digits_onto (l.at - 1) 16 false (l.rest / 16)) put ∙ sym (more_digits l.rest (drop l.at l.buffer) l.at c.loop-at-test.true c.if-rest-eq0.false) ∙ l.invariant.told;
    }

pub returns-then-rest-eq0 : goal.returns-then-rest-eq0
returns-then-rest-eq0 c =
    let l = c.loop-at in
    let put = digit_put l.buffer l.at c.glyph.result l.rest c.loop-at-test.true (omega (arith, l.invariant.size, l.invariant.within)) c.glyph.ensures in
    record { within = omega arith; digits = put ∙ sym (first_digit l.rest (drop l.at l.buffer) l.at c.loop-at-test.true c.if-rest-eq0.true) ∙ l.invariant.told }
