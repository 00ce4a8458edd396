use Rattle.std.proofs.Common.{sym, subst, [], ◌∷◌}
use Rattle.clients.specs.declared.places.Places.{Places}
use Rattle.clients.specs.Places.{IsFree}
use Rattle.clients.specs.Clients.{ServesOn}
use Rattle.clients.proofs.Loops.{plain_from, serves_coming}
use Rattle.clients.proofs.event_loop.EventLoop.accept_one.Goals as goal

pub returns-in-Client-clause-serves : goal.returns-in-Client-clause-serves
returns-in-Client-clause-serves g c =
    let came = c.in-Client.stream in
    let same = c.count_one.ensures.places in
    let Free : Places g.row.S.Denot → Type 0 = λ p. IsFree p c.in-Some.place in
    let free = subst Free (sym same) c.in-Some.ensures.free in
    let there = c.take.ensures.there free.0 in (
      came ∷ [],
      c.in-Client.ensures,
      (λ plain idle.
          let From : Places g.row.S.Denot → Type 0 = λ p. ServesOn g.S.Stream.moved g.S.Stream.has_ended g.S.Stream.failures idle p c.take.new.self (came ∷ []) in
          subst From same
          (serves_coming g.S.Stream.moved g.S.Stream.has_ended g.S.Stream.failures idle c.count_one.new.self.places c.take.new.self c.in-Some.place came (g.met.S.Stream.moved_none came) free c.take.ensures.beside c.take.ensures.session
          (there.0, there.1, there.2, plain_from there.0 _ _ there.3 c.later_in-later.ensures plain))),
    )
