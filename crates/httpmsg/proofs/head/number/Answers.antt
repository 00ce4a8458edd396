use Rattle.std.proofs.Common.{arith, sym, ◌∙◌, ◌≡◌, true, get_or, ◌<◌, length, refl}
use Rattle.std.specs.Char.{is_ascii_digit}
use Rattle.std.proofs.lemmas.List.Folds.{list_all_more}
use Rattle.httpmsg.proofs.Numbers.{digit_step, digit_above}
use Rattle.httpmsg.proofs.head.number.Goals as goal

pub loop-digit-preserved : goal.loop-digit-preserved
loop-digit-preserved c =
    let digit : is_ascii_digit (get_or c.args.value.now c.loop-digit.digit-index 0) ≡ true =
    sym c.is_ascii_digit.ensures.value ∙ c.if-not-is_ascii_digit.false
    in
    let below : c.loop-digit.digit-index < length c.args.value.now = omega arith in (
      omega arith,
      list_all_more is_ascii_digit c.args.value.now c.loop-digit.digit-index 0 below
          ∙ rw (c.loop-digit.invariant.1, digit) refl,
      digit_step 65537 c.args.value.now c.loop-digit.digit-index c.loop-digit.number _ below (digit_above _ digit) (omega arith)
          ∙ c.loop-digit.invariant.2,
    )
