use Rattle.std.proofs.Common.{◌≡◌, true, get_or, arith, add-one, sym}
use Rattle.std.specs.Char.{is_ascii_digit}
use Rattle.std.proofs.Math.Nat.{pow-suc}
use Rattle.std.proofs.lemmas.Int.Digits.{digits_value_more}
use Rattle.xv_text.proofs.Numbers.{digit_is, all_more}
use Rattle.xv_text.proofs.digits.digits_value.Goals as goal

pub loop-digit-preserved : goal.loop-digit-preserved
loop-digit-preserved c =
    let i = c.loop-digit.digit-index in
    let ds = c.args.digits.now in
    let passes : is_ascii_digit (get_or ds i 0) ≡ true = sym c.if-not-is_ascii_digit.ensures.value in
    let digit = digit_is (get_or ds i 0) passes in
    let more = digits_value_more 10 ds i c.loop-digit-test.true in
    record {
      digits = all_more is_ascii_digit ds i c.loop-digit-test.true c.loop-digit.invariant.digits passes;
      value = omega (arith, more, digit, c.from.ensures, c.loop-digit.invariant.value);
      below = rw (add-one, pow-suc) (omega (arith, digit, c.from.ensures, c.loop-digit.invariant.below));
    }
