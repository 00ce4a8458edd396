use Rattle.std.proofs.Common.{◌∙◌, sym}
use Rattle.sessions.proofs.Writing.{goes_on_written, goes_on_in_part, goes_on_lost, constant_has_some}
use Rattle.sessions.proofs.session.Session.put_constant.Goals as goal

pub returns-then-is_lost : goal.returns-then-is_lost
returns-then-is_lost c = goes_on_lost c.args.self.now _ (sym c.is_lost.ensures ∙ c.if-is_lost.true)

pub returns-in-Ok : goal.returns-in-Ok
returns-in-Ok c =
    goes_on_written c.self.inside.cutter c.self.inside.waiting.items c.self.inside.outbox c.write_constant.new.output _ c.self.inside.phase c.args.self.now (constant_has_some c.args.message.now c.args.text.now) c.self.view_is
    (sym c.is_lost.ensures ∙ c.if-is_lost.false) c.in-Ok.ensures.writes

pub returns-in-Err : goal.returns-in-Err
returns-in-Err c =
    goes_on_in_part c.self.inside.cutter c.self.inside.waiting.items c.self.inside.outbox c.write_constant.new.output _ c.self.inside.phase c.args.self.now (constant_has_some c.args.message.now c.args.text.now) c.self.view_is
    (sym c.is_lost.ensures ∙ c.if-is_lost.false) c.in-Err.ensures.writes
