use Rattle.sessions.proofs.Writing.{closes_written, closes_in_part}
use Rattle.sessions.proofs.session.Session.end_without_memory.Goals as goal

pub returns-in-Ok-clause-closes : goal.returns-in-Ok-clause-closes
returns-in-Ok-clause-closes c =
    closes_written c.self.inside.cutter c.self.inside.waiting.items c.self.inside.outbox c.write_no_more.new.output _ c.self.inside.phase c.args.self.now c.self.view_is
    c.in-Ok.ensures.writes

pub returns-in-Err-clause-closes : goal.returns-in-Err-clause-closes
returns-in-Err-clause-closes c =
    closes_in_part c.self.inside.cutter c.self.inside.waiting.items c.self.inside.outbox c.write_no_more.new.output _ c.self.inside.phase c.args.self.now c.self.view_is
    c.in-Err.ensures.writes
