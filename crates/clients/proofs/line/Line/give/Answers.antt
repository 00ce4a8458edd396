use Rattle.std.proofs.Common.{◌∙◌, ap, sym, Option, Some, option_map}
use Rattle.sessions.specs.Restating.{Queue}
use Rattle.clients.proofs.Leaving.{not_plain, gives_of}
use Rattle.clients.proofs.line.Line.give.Goals as goal

pub returns-clause-dialect : goal.returns-clause-dialect
returns-clause-dialect g c = ap Some c.give-answered.ensures.format ∙ sym (ap (λ (o : Option Queue). option_map (λ (q : Queue). q.format) o) c.in-Some.is)

pub returns-clause-plain : goal.returns-clause-plain
returns-clause-plain g c plain = absurd (not_plain c.args.self.now c.in-Some.later c.in-Some.is plain)

pub returns-clause-gives : goal.returns-clause-gives
returns-clause-gives g c f is = (
  c.give-answered.result,
  gives_of c.args.self.now c.in-Some.later c.give-answered.new.self f c.args.session.now c.give-answered.new.session c.give-answered.result c.in-Some.is c.give-answered.ensures.gives is,
)
