use Rattle.std.proofs.Common.{◌≡◌, ◌∙◌, refl, sym, subst, List}
use Rattle.std.proofs.lemmas.List.{with_items_is}
use Rattle.std.specs.Vec.{with_items}
use Rattle.sessions.specs.State.{State}
use Rattle.clients.specs.declared.places.Places.{Places}
use Rattle.clients.specs.Places.{TakeTurns}
use Rattle.clients.specs.Serving.{AnswersGroup, StopsAtGroup}
use Rattle.clients.specs.Clients.{StopsTurn}
use Rattle.clients.proofs.Loops.{turn_serves, turn_stops}
use Rattle.clients.proofs.event_loop.EventLoop.turn.Goals as goal

pub returns-in-Ok-clause-serves : goal.returns-in-Ok-clause-serves
returns-in-Ok-clause-serves g c rules v shows =
    let before = c.turn_all-is_busy.new.self in
    let mid : Places g.row.S.Denot = record { lines = before.lines; sessions = with_items before.sessions c.answer-answered.new.sessions } in
    let From : Places g.row.S.Denot → Type 0 = λ p. TakeTurns g.S.Stream.moved g.S.Stream.has_ended g.S.Stream.failures c.args.self.now.limits.idle p c.turn_answered.new.self in
    let first = c.turn_all-is_busy.new.desk.first in
    let next = c.answer-answered.new.self.first in
    let Of : List State → List State → Type 0 = λ xs ys. AnswersGroup rules first next c.args.store.now c.answer-answered.new.store v xs ys in
    let now = c.answer-answered.new.sessions in
    let all : mid.sessions.items ≡ now = with_items_is before.sessions now (c.answer-answered.auto.sessions ∙ c.deref_mut.ensures.len) in
    turn_serves g.S.Stream.moved g.S.Stream.has_ended g.S.Stream.failures c.args.self.now.limits.idle g.met.S.Stream.moved_then g.met.S.Stream.ended_then rules c.args.store.now c.answer-answered.new.store v c.args.self.now.places before mid
    c.turn_answered.new.self first next c.turn_all-is_busy.ensures (λ i. refl) refl (subst (λ ys. Of before.sessions.items ys) (sym all) (subst (λ xs. Of xs now) c.deref_mut.ensures.value (c.in-Ok.ensures.outcome rules v shows)))
    (subst From c.tell.ensures.places c.turn_answered.ensures)

pub returns-in-Err-clause-serves : goal.returns-in-Err-clause-serves
returns-in-Err-clause-serves g c rules v shows =
    let before = c.turn_all-is_busy.new.self in
    let mid : Places g.row.S.Denot = record { lines = before.lines; sessions = with_items before.sessions c.answer-answered.new.sessions } in
    let first = c.turn_all-is_busy.new.desk.first in
    let next = c.answer-answered.new.self.first in
    let Of : List State → List State → Type 0 = λ xs ys. StopsAtGroup rules first next c.args.store.now c.answer-answered.new.store v xs ys c.in-Err.fault in
    let now = c.answer-answered.new.sessions in
    let all : mid.sessions.items ≡ now = with_items_is before.sessions now (c.answer-answered.auto.sessions ∙ c.deref_mut.ensures.len) in
    let To : Places g.row.S.Denot → Type 0 = λ p. StopsTurn g.S.Stream.moved g.S.Stream.has_ended g.S.Stream.failures c.args.self.now.limits.idle rules c.args.store.now c.answer-answered.new.store v c.args.self.now.places p c.in-Err.fault in
    subst To (sym c.tell.ensures.places)
    (turn_stops g.S.Stream.moved g.S.Stream.has_ended g.S.Stream.failures c.args.self.now.limits.idle g.met.S.Stream.moved_then g.met.S.Stream.ended_then rules c.args.store.now c.answer-answered.new.store v c.args.self.now.places before mid
    c.args.self.now.places first next c.turn_all-is_busy.ensures (λ i. refl) refl c.in-Err.fault (subst (λ ys. Of before.sessions.items ys) (sym all) (subst (λ xs. Of xs now) c.deref_mut.ensures.value (c.in-Err.ensures.outcome rules v shows))))
