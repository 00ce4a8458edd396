use Rattle.std.proofs.Common.{◌≡◌, ◌∙◌, drop}
use Rattle.std.proofs.lemmas.List.{take_rest}
use Rattle.byteorder.specs.Endian.{big_number}
use Rattle.pages.proofs.Numbers.{number_read}
use Rattle.pages.proofs.cells.read_number.Goals as goal

pub returns-clause-number : goal.returns-clause-number
returns-clause-number c =
    let read : c.read_u16.result ≡ big_number 2 (drop c.args.at c.args.bytes.now) = simp take_rest at c.read_u16.ensures in
    c.from.ensures ∙ read ∙ number_read c.args.at c.args.bytes.now
