use Rattle.std.proofs.Common.{◌↔◌, IsTrue, Option, subst, sym}
use Rattle.std.specs.declared.time.Duration.{Duration}
use Rattle.clients.specs.Waiting.{IsLate}
use Rattle.clients.proofs.line.Line.is_late.Goals as goal

pub returns-then-is_waited_for : goal.returns-then-is_waited_for
returns-then-is_waited_for g c =
    let Told : Option Duration → Type 0 = λ idle. IsTrue c.has_passed.result ↔ IsLate c.args.session.now c.args.self.now.since c.args.now idle in
    subst Told (sym c.in-Some.is)
    (λ passed. (c.is_waited_for.ensures.0 c.if-is_waited_for.true, c.has_passed.ensures.0 passed), λ late. c.has_passed.ensures.1 late.1)
