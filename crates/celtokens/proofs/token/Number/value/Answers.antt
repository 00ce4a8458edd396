use Rattle.std.proofs.Common.{◌≡◌, ◌∙◌, get_or, ap, sym, arith}
use Rattle.std.specs.Char.{digit_value}
use Rattle.std.proofs.lemmas.List.{get_or_read}
use Rattle.celtokens.proofs.Values.{digits_value_after-end, too_large}
use Rattle.celtokens.proofs.token.Number.value.Goals as goal

pub returns-in_default-checked_mul : goal.returns-in_default-checked_mul
returns-in_default-checked_mul c =
    let e : c.from.result ≡ c.args.self.radix = c.from.ensures in
    let large = rw e at c.in_default-checked_mul.ensures in
    λ small.
    too_large c.args.self.radix c.loop-c.value _ c.args.self.digits.now c.loop-c.c-index (omega arith) c.loop-c-test.true (omega (arith, large)) c.loop-c.invariant.value small

pub returns-in_default-checked_add : goal.returns-in_default-checked_add
returns-in_default-checked_add c =
    let e : c.from.result ≡ c.args.self.radix = c.from.ensures in
    let product = rw e at c.in-Some-checked_mul.ensures in
    let digit = c.in-Some.ensures.value in
    let item : digit_value c.c-item.result ≡ digit_value (get_or c.args.self.digits.now c.loop-c.c-index 0) = let at : c.c-item.result ≡ get_or c.args.self.digits.now c.loop-c.c-index 0 = get_or_read c.args.self.digits.now c.loop-c.c-index c.c-item.result c.loop-c-test.true c.c-item.is 0 in ap digit_value at in
    let large = c.in_default-checked_add.ensures in
    λ small.
    too_large c.args.self.radix c.loop-c.value _ c.args.self.digits.now c.loop-c.c-index (omega arith) c.loop-c-test.true (omega (arith, large, product, digit)) c.loop-c.invariant.value small

pub returns : goal.returns
returns c =
    let e : c.loop-c.value ≡ _ = sym (digits_value_after-end c.args.self.radix c.loop-c.value c.args.self.digits.now c.loop-c.c-index c.loop-c-test.false) ∙ c.loop-c.invariant.value in
    (rw (← e) c.loop-c.invariant.fits, e)
