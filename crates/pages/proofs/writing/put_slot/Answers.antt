use Rattle.std.proofs.Common.{arith, ◌≡◌, ◌∙◌, ap, ◌+◌, ◌*◌}
use Rattle.pages.specs.Page.{number_at}
use Rattle.pages.proofs.Bytes.{number_same}
use Rattle.pages.proofs.writing.put_slot.Goals as goal

pub returns-clause-offset : goal.returns-clause-offset
returns-clause-offset c =
    let at = 8 + 4 * c.args.i in
    number_same at c.put_number-2.new.bytes c.put_number-3.new.bytes (λ k low high. c.put_number-3.ensures.above k (omega arith))
    ∙ number_same at c.put_number.new.bytes c.put_number-2.new.bytes (λ k low high. c.put_number-2.ensures.below k (omega arith))
    ∙ c.put_number.ensures.number

pub returns-clause-size : goal.returns-clause-size
returns-clause-size c =
    let at = 10 + 4 * c.args.i in
    let place : at ≡ 8 + 4 * c.args.i + 2 = omega arith in
    number_same at c.put_number-2.new.bytes c.put_number-3.new.bytes (λ k low high. c.put_number-3.ensures.above k (omega arith))
    ∙ ap (λ k. number_at k c.put_number-2.new.bytes) place
    ∙ c.put_number-2.ensures.number
