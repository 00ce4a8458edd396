use Rattle.std.proofs.Common.{arith, ◌∙◌}
use Rattle.pages.proofs.Bytes.{number_same}
use Rattle.pages.proofs.writing.put_cell.Goals as goal

pub returns-clause-key_size : goal.returns-clause-key_size
returns-clause-key_size c =
    number_same c.args.at c.put.new.bytes c.put-2.new.bytes (λ k low high. c.put-2.ensures.below k (omega arith))
    ∙ number_same c.args.at c.put_number.new.bytes c.put.new.bytes (λ k low high. c.put.ensures.below k (omega arith))
    ∙ c.put_number.ensures.number
