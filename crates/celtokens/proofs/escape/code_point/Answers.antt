use Rattle.std.proofs.Common.{◌≡◌, ◌∙◌, true, lt-ltb, ◌<◌, ◌+◌, ◌*◌, ◌^◌, get_or, ap, sym, arith}
use Rattle.std.specs.Prelude.{nat_lt}
use Rattle.std.specs.Char.{digit_value}
use Rattle.std.proofs.lemmas.List.{get_or_read}
use Rattle.celtokens.proofs.Values.{digits_value_after-drop, all_digits-drop, below_next, below_limit}
use Rattle.celtokens.proofs.escape.code_point.Goals as goal
use Rattle.celtokens.proofs.escape.code_point.Goals.{In-Some-to_digit}

-- one digit more, and the number that it makes
below_here : (c : In-Some-to_digit) → c.loop-digit.code * c.args.radix + c.in-Some-to_digit.value < 2 ^ (4 * (c.loop-digit.digit-index + 1))
below_here c =
    let digit = c.in-Some-to_digit.ensures.value in
    below_next c.args.radix c.loop-digit.code c.in-Some-to_digit.value c.loop-digit.digit-index c.requires.at_most_sixteen (omega (arith, digit)) c.loop-digit.invariant.below

fits : (c : In-Some-to_digit) → c.loop-digit.code * c.args.radix + c.in-Some-to_digit.value < 2 ^ 32
fits c =
    let cut = c.in-Some.ensures.cases in
    below_limit c.args.radix _ (c.loop-digit.digit-index + 1) (omega (arith, cut)) (below_here c)

pub overflow_mul-code : goal.overflow_mul-code
overflow_mul-code c = omega (arith, fits c)

pub overflow_add-code : goal.overflow_add-code
overflow_add-code c = omega (arith, fits c)

pub loop-digit-preserved : goal.loop-digit-preserved
loop-digit-preserved c =
    let digit = c.in-Some-to_digit.ensures.value in
    let at = get_or_read c.in-Some.digits.now c.loop-digit.digit-index c.digit-item.result c.loop-digit-test.true c.digit-item.is 0 in
    let e : c.in-Some-to_digit.value ≡ digit_value (get_or c.in-Some.digits.now c.loop-digit.digit-index 0) = digit.1 ∙ ap digit_value at in
    record {
      value = rw e (sym (digits_value_after-drop c.args.radix c.loop-digit.code c.in-Some.digits.now c.loop-digit.digit-index c.loop-digit-test.true)) ∙ c.loop-digit.invariant.value;
      in_base = (let more = all_digits-drop c.args.radix c.in-Some.digits.now c.loop-digit.digit-index c.loop-digit-test.true in
          let below : nat_lt (digit_value (get_or c.in-Some.digits.now c.loop-digit.digit-index 0)) c.args.radix ≡ true = lt-ltb _ _ (rw (ap digit_value at) at digit.0) in
          sym (rw below at more) ∙ c.loop-digit.invariant.in_base);
      below = below_here c;
    }
