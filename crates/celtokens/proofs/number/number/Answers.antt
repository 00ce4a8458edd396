use Rattle.celtokens.specs.Seen.{number}
use Rattle.celtokens.proofs.Numerals.{uint_longest, int_longest}
use Rattle.celtokens.proofs.number.number.Goals as goal

pub returns-in-Some : goal.returns-in-Some
returns-in-Some c = uint_longest c.args.chars.now (number c.numeral.result.0) c.numeral.result.1.now c.in-Some.beyond.now c.requires c.numeral.ensures c.in-Some.ensures

pub returns-in-None : goal.returns-in-None
returns-in-None c = int_longest c.args.chars.now (number c.numeral.result.0) c.numeral.result.1.now c.requires c.numeral.ensures c.in-None.ensures
