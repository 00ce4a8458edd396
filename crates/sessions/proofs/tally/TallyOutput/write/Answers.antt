use Rattle.std.proofs.Common.{arith, ◌∙◌, sym, ap, length}
use Rattle.std.proofs.lemmas.List.{take_all}
use Rattle.sessions.specs.Tally.{counted}
use Rattle.sessions.proofs.Counting.{counted_is}
use Rattle.sessions.proofs.tally.TallyOutput.write.Goals as goal

pub returns-clause-takes : goal.returns-clause-takes
returns-clause-takes c =
    c.saturating_add-self.ensures ∙ sym (counted_is c.args.self.now.bytes c.args.bytes.now (omega arith))
    ∙ ap (counted c.args.self.now.bytes) (sym (take_all (length c.args.bytes.now) c.args.bytes.now (omega arith)))
