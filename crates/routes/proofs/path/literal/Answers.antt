use Rattle.routes.proofs.path.literal.Goals as goal

pub returns-in-None : goal.returns-in-None
returns-in-None c = rw c.in-None.is c.format.ensures.ok

pub returns-in-Some : goal.returns-in-Some
returns-in-Some c = rw c.in-Some.is c.format-in-Some.ensures.ok
