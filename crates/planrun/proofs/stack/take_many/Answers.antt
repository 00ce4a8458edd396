use Rattle.std.proofs.Common.{◌∙◌, ap, reverse}
use Rattle.celmean.specs.Seen.{outcomes_seen}
use Rattle.planrun.proofs.Stacks.{outcomes-reverse}
use Rattle.planrun.proofs.stack.take_many.Goals as goal

pub returns-clause-taken : goal.returns-clause-taken
returns-clause-taken c =
    ap outcomes_seen c.reverse.ensures.items ∙ (outcomes-reverse c.in_ok-outcomes.outcomes.items ∙ ap reverse c.in_ok-outcomes.ensures.taken)
