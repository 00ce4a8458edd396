use Rattle.apicore.proofs.namespaces.holds_any.Goals as goal

pub returns-clause-holds : goal.returns-clause-holds
returns-clause-holds g c = λ held v over. c.has_any.ensures.any over.base held over.below over.shows
