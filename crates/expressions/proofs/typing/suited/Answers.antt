use Rattle.expressions.proofs.typing.suited.Goals as goal

pub returns-in-None : goal.returns-in-None
returns-in-None c = λ t typed suits. (rw c.in-None.is at c.in_ok-found.ensures) t typed
