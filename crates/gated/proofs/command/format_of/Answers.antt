use Rattle.std.proofs.Common.{rules, codes, Some, ◌≡◌}
use Rattle.std.specs.Str.Parse.{ParsesUnsigned, ExplainsUnsignedError, HasUnsignedDigitsIfOk}
use Rattle.clap.specs.Words.{found_of}
use Rattle.gated.proofs.Verbs.{number_read}
use Rattle.gated.proofs.command.format_of.Goals as goal

pub returns-in-1 : goal.returns-in-1
returns-in-1 c =
    let found = found_of c.args.matches.now in
    let number : c.get_one.result ≡ Some 1 = search rules in
    number_read _ (λ bs r. ParsesUnsigned 16 10 bs r × ExplainsUnsignedError 10 bs r × HasUnsignedDigitsIfOk bs r) 16 found (codes "format") c.get_one.result 1
    c.get_one.ensures.none c.get_one.ensures.value (λ u x g. g.0) number

pub returns-in-2 : goal.returns-in-2
returns-in-2 c =
    let found = found_of c.args.matches.now in
    let number : c.get_one.result ≡ Some 2 = search rules in
    number_read _ (λ bs r. ParsesUnsigned 16 10 bs r × ExplainsUnsignedError 10 bs r × HasUnsignedDigitsIfOk bs r) 16 found (codes "format") c.get_one.result 2
    c.get_one.ensures.none c.get_one.ensures.value (λ u x g. g.0) number

pub returns-in-3 : goal.returns-in-3
returns-in-3 c =
    let found = found_of c.args.matches.now in
    let number : c.get_one.result ≡ Some 3 = search rules in
    number_read _ (λ bs r. ParsesUnsigned 16 10 bs r × ExplainsUnsignedError 10 bs r × HasUnsignedDigitsIfOk bs r) 16 found (codes "format") c.get_one.result 3
    c.get_one.ensures.none c.get_one.ensures.value (λ u x g. g.0) number
