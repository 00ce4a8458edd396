use Rattle.sessions.proofs.Writing.{closes_written, closes_in_part}
use Rattle.sessions.proofs.session.Session.refuse.Goals as goal

pub returns-in-Ok-clause-refused : goal.returns-in-Ok-clause-refused
returns-in-Ok-clause-refused c is =
    closes_written c.self.inside.cutter c.self.inside.waiting.items c.self.inside.outbox c.write_storage_failed.new.output _ c.self.inside.phase c.args.self.now c.self.view_is
    c.in-Ok.ensures.writes

pub returns-in-Err-clause-refused : goal.returns-in-Err-clause-refused
returns-in-Err-clause-refused c is =
    closes_in_part c.self.inside.cutter c.self.inside.waiting.items c.self.inside.outbox c.write_storage_failed.new.output _ c.self.inside.phase c.args.self.now c.self.view_is
    c.in-Err.ensures.writes
