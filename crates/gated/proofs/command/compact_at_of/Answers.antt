use Rattle.std.proofs.Common.{codes}
use Rattle.std.specs.Str.Parse.{ParsesUnsigned, ExplainsUnsignedError, HasUnsignedDigitsIfOk}
use Rattle.clap.specs.Words.{found_of}
use Rattle.gated.proofs.Verbs.{number_may_be_read}
use Rattle.gated.proofs.command.compact_at_of.Goals as goal

pub returns : goal.returns
returns c =
    number_may_be_read _ (λ bs r. ParsesUnsigned 16 10 bs r × ExplainsUnsignedError 10 bs r × HasUnsignedDigitsIfOk bs r) (found_of c.args.matches.now) (codes "compact-at")
    c.get_one.result c.get_one.ensures.none c.get_one.ensures.value (λ u x g. g.0)
