use Rattle.std.proofs.Common.{◌∙◌}
use Rattle.apicore.proofs.Found.{getting_found}
use Rattle.apicore.proofs.reading.shown.Goals as goal

pub returns-clause-reply : goal.returns-clause-reply
returns-clause-reply g c = λ held v over.
    c.in_ok-reply_of.ensures ∙ getting_found held c.args.key.now c.in_ok-found.found (c.in_ok-found.ensures.found over.base held over.below over.shows)
