use Rattle.std.proofs.Common.{◌∙◌}
use Rattle.apicore.proofs.reading.listed.Goals as goal

pub returns-clause-reply : goal.returns-clause-reply
returns-clause-reply g c = λ held v over.
    c.in_ok-listed.ensures over.base held over.shows (c.deref.ensures.value ∙ (rw c.namespace.ensures at c.in_ok-below.ensures.listed over.base over.below))
