use Rattle.std.proofs.Common.{sym, subst, []}
use Rattle.clients.specs.declared.places.Places.{Places}
use Rattle.clients.specs.Clients.{ServesOn, EndsOn}
use Rattle.clients.proofs.Loops.{serves_marked, ends_marked}
use Rattle.clients.proofs.event_loop.EventLoop.look.Goals as goal

pub returns-in_err-is_asked-clause-serves : goal.returns-in_err-is_asked-clause-serves
returns-in_err-is_asked-clause-serves g c idle = serves_marked g.S.Stream.moved g.S.Stream.has_ended g.S.Stream.failures idle c.args.self.now.places c.wait.new.places c.wait.ensures.marked

pub returns-in_err-is_asked-clause-ends : goal.returns-in_err-is_asked-clause-ends
returns-in_err-is_asked-clause-ends g c idle = ends_marked g.S.Stream.moved g.S.Stream.has_ended g.S.Stream.failures idle c.args.self.now.places c.wait.new.places c.wait.ensures.marked

pub returns-clause-serves : goal.returns-clause-serves
returns-clause-serves g c idle =
    let To : Places g.row.S.Denot → Type 0 = λ p. ServesOn g.S.Stream.moved g.S.Stream.has_ended g.S.Stream.failures idle c.args.self.now.places p [] in
    subst To (sym c.note_asked.ensures.places) (serves_marked g.S.Stream.moved g.S.Stream.has_ended g.S.Stream.failures idle c.args.self.now.places c.wait.new.places c.wait.ensures.marked)

pub returns-clause-ends : goal.returns-clause-ends
returns-clause-ends g c idle =
    let To : Places g.row.S.Denot → Type 0 = λ p. EndsOn g.S.Stream.moved g.S.Stream.has_ended g.S.Stream.failures idle c.args.self.now.places p in
    subst To (sym c.note_asked.ensures.places) (ends_marked g.S.Stream.moved g.S.Stream.has_ended g.S.Stream.failures idle c.args.self.now.places c.wait.new.places c.wait.ensures.marked)
