use Rattle.std.proofs.Common.{rules, ◌∙◌, ap, sym, subst, refl, ◌≡◌, false, true≢false, []}
use Rattle.std.specs.Prelude.{MatchResult}
use Rattle.histories.specs.View.{view}
use Rattle.durable.specs.Settled.{root_of}
use Rattle.durable.proofs.Answering.{settled_serves}
use Rattle.api.proofs.Folds.{seen}
use Rattle.clients.specs.declared.event_loop.Limits.{Limits}
use Rattle.clients.specs.declared.places.Places.{Places}
use Rattle.clients.specs.Compacting.{log_sectors}
use Rattle.clients.specs.Clients.{ServesOn, ServesTurn, StopsTurn}
use Rattle.clients.proofs.Served.{never_due}
use Rattle.clients.proofs.Loops.{serves_none, serves_then}
use Rattle.clients.proofs.Runs.{no_dialect, came_end, run_begins, run_turn, run_waits, run_stops, run_compacted, run_same, run_stopped}
use Rattle.clients.proofs.event_loop.EventLoop.run.Goals as goal

pub loop-init : goal.loop-init
loop-init g c = record {
  times = search rules;
  idle = refl;
  dialect = λ plain. no_dialect _ _ _ c.dialect_in-dialect.ensures plain;
  served = λ none rules v shows.
      run_begins g.S.Stream.moved g.S.Stream.has_ended g.S.Stream.failures c.args.self.now.limits.idle (c.args.self.now.limits.is_kubernetes ≡ false) rules c.args.self.now.places (g.N.Network.came c.args.network.now c.args.network.now) c.args.store.now v
      (g.met.N.Network.came_none c.args.network.now) shows (λ keeps content since. g.met.D.Device.only_now _ content keeps since);
  settled = λ rules h settled.
      run_begins g.S.Stream.moved g.S.Stream.has_ended g.S.Stream.failures c.args.self.now.limits.idle (c.args.self.now.limits.is_kubernetes ≡ false) rules c.args.self.now.places (g.N.Network.came c.args.network.now c.args.network.now) c.args.store.now (view rules h)
      (g.met.N.Network.came_none c.args.network.now) (λ working. settled_serves rules c.args.store.now h settled)
      (λ keeps content since. g.met.D.Device.only_now _ content keeps since);
}

pub returns-in_default-clause-served : goal.returns-in_default-clause-served
returns-in_default-clause-served g c none rules v shows =
    run_waits g.S.Stream.moved g.S.Stream.has_ended g.S.Stream.failures c.args.self.now.limits.idle (c.args.self.now.limits.is_kubernetes ≡ false) rules c.args.self.now.places (g.N.Network.came c.args.network.now c.loop.network) (g.N.Network.came c.args.network.now c.look.new.network) []
    (λ before is. g.met.N.Network.came_then c.args.network.now c.loop.network c.look.new.network before [] is c.look.ensures.came)
    c.args.store.now c.loop.store v c.loop.self.places c.look.new.self.places (c.loop.invariant.served none rules v shows) (λ plain. c.look.ensures.serves c.args.self.now.limits.idle)

pub returns-in_default-clause-settled : goal.returns-in_default-clause-settled
returns-in_default-clause-settled g c rules h settled =
    run_waits g.S.Stream.moved g.S.Stream.has_ended g.S.Stream.failures c.args.self.now.limits.idle (c.args.self.now.limits.is_kubernetes ≡ false) rules c.args.self.now.places (g.N.Network.came c.args.network.now c.loop.network) (g.N.Network.came c.args.network.now c.look.new.network) []
    (λ before is. g.met.N.Network.came_then c.args.network.now c.loop.network c.look.new.network before [] is c.look.ensures.came)
    c.args.store.now c.loop.store (view rules h) c.loop.self.places c.look.new.self.places (c.loop.invariant.settled rules h settled) (λ plain. c.look.ensures.serves c.args.self.now.limits.idle)

pub returns-in-Err-clause-served : goal.returns-in-Err-clause-served
returns-in-Err-clause-served g c none rules v shows =
    let inv = c.loop.invariant in
    let before = inv.served none rules v shows in
    let idle = c.args.self.now.limits.idle in
    let start = c.args.self.now.places in
    let streams = c.accept-is_asked.ensures.serves.0 in
    let From : Places g.row.S.Denot → Type 0 = λ p. ServesOn g.S.Stream.moved g.S.Stream.has_ended g.S.Stream.failures idle p c.accept-is_asked.new.self.places streams in
    let given = g.met.N.Network.came_then c.loop.network c.look.new.network c.accept-is_asked.new.network [] streams c.look.ensures.came c.accept-is_asked.ensures.serves.1 in
    let comes = λ (plain : c.args.self.now.limits.is_kubernetes ≡ false). serves_then g.S.Stream.moved g.S.Stream.has_ended g.S.Stream.failures idle c.loop.self.places c.look.new.self.places c.accept-is_asked.new.self.places [] streams (c.look.ensures.serves idle)
    (subst From c.note_time.ensures.places (c.accept-is_asked.ensures.serves.2 (c.loop.invariant.dialect plain) idle)) in
    let idle_is = c.accept-is_asked.ensures.limits.0 ∙ ap (λ (l : Limits). l.idle) c.note_time.ensures.limits ∙ ap (λ (l : Limits). l.idle) c.look.ensures.limits ∙ c.loop.invariant.idle in
    run_stops g.S.Stream.moved g.S.Stream.has_ended g.S.Stream.failures idle (c.args.self.now.limits.is_kubernetes ≡ false) rules start (g.N.Network.came c.args.network.now c.loop.network) (g.N.Network.came c.args.network.now c.send_last.new.network) streams
    (λ before is. g.met.N.Network.came_then c.args.network.now c.loop.network c.send_last.new.network before streams is
    (came_end g.N.Network.came g.met.N.Network.came_then c.loop.network c.accept-is_asked.new.network c.send_last.new.network streams given c.send_last.ensures.came))
    c.args.store.now c.loop.store v c.loop.self.places c.accept-is_asked.new.self.places before comes c.turn-turned.new.store c.turn-turned.new.self.places c.send_last.new.self.places c.in-Err.fault
    (subst (λ i. StopsTurn g.S.Stream.moved g.S.Stream.has_ended g.S.Stream.failures i rules c.loop.store c.turn-turned.new.store (seen rules v before.answered) c.accept-is_asked.new.self.places c.turn-turned.new.self.places c.in-Err.fault) idle_is
    (c.in-Err.ensures.serves rules (seen rules v before.answered) before.store.shows)) (c.send_last.ensures.ends idle)

pub returns-in-Err-clause-settled : goal.returns-in-Err-clause-settled
returns-in-Err-clause-settled g c rules h settled =
    let inv = c.loop.invariant in
    let before = inv.settled rules h settled in
    let idle = c.args.self.now.limits.idle in
    let start = c.args.self.now.places in
    let streams = c.accept-is_asked.ensures.serves.0 in
    let From : Places g.row.S.Denot → Type 0 = λ p. ServesOn g.S.Stream.moved g.S.Stream.has_ended g.S.Stream.failures idle p c.accept-is_asked.new.self.places streams in
    let given = g.met.N.Network.came_then c.loop.network c.look.new.network c.accept-is_asked.new.network [] streams c.look.ensures.came c.accept-is_asked.ensures.serves.1 in
    let comes = λ (plain : c.args.self.now.limits.is_kubernetes ≡ false). serves_then g.S.Stream.moved g.S.Stream.has_ended g.S.Stream.failures idle c.loop.self.places c.look.new.self.places c.accept-is_asked.new.self.places [] streams (c.look.ensures.serves idle)
    (subst From c.note_time.ensures.places (c.accept-is_asked.ensures.serves.2 (c.loop.invariant.dialect plain) idle)) in
    let idle_is = c.accept-is_asked.ensures.limits.0 ∙ ap (λ (l : Limits). l.idle) c.note_time.ensures.limits ∙ ap (λ (l : Limits). l.idle) c.look.ensures.limits ∙ c.loop.invariant.idle in
    run_stops g.S.Stream.moved g.S.Stream.has_ended g.S.Stream.failures idle (c.args.self.now.limits.is_kubernetes ≡ false) rules start (g.N.Network.came c.args.network.now c.loop.network) (g.N.Network.came c.args.network.now c.send_last.new.network) streams
    (λ before is. g.met.N.Network.came_then c.args.network.now c.loop.network c.send_last.new.network before streams is
    (came_end g.N.Network.came g.met.N.Network.came_then c.loop.network c.accept-is_asked.new.network c.send_last.new.network streams given c.send_last.ensures.came))
    c.args.store.now c.loop.store (view rules h) c.loop.self.places c.accept-is_asked.new.self.places before comes c.turn-turned.new.store c.turn-turned.new.self.places c.send_last.new.self.places c.in-Err.fault
    (subst (λ i. StopsTurn g.S.Stream.moved g.S.Stream.has_ended g.S.Stream.failures i rules c.loop.store c.turn-turned.new.store (seen rules (view rules h) before.answered) c.accept-is_asked.new.self.places c.turn-turned.new.self.places c.in-Err.fault) idle_is
    (c.in-Err.ensures.serves rules (seen rules (view rules h) before.answered) before.store.shows)) (c.send_last.ensures.ends idle)

pub returns-in-Err-compacted-clause-settled : goal.returns-in-Err-compacted-clause-settled
returns-in-Err-compacted-clause-settled g c rules h settled =
    let inv = c.loop.invariant in
    let before = inv.settled rules h settled in
    let idle = c.args.self.now.limits.idle in
    let start = c.args.self.now.places in
    let streams = c.accept-is_asked.ensures.serves.0 in
    let From : Places g.row.S.Denot → Type 0 = λ p. ServesOn g.S.Stream.moved g.S.Stream.has_ended g.S.Stream.failures idle p c.accept-is_asked.new.self.places streams in
    let given = g.met.N.Network.came_then c.loop.network c.look.new.network c.accept-is_asked.new.network [] streams c.look.ensures.came c.accept-is_asked.ensures.serves.1 in
    let comes = λ (plain : c.args.self.now.limits.is_kubernetes ≡ false). serves_then g.S.Stream.moved g.S.Stream.has_ended g.S.Stream.failures idle c.loop.self.places c.look.new.self.places c.accept-is_asked.new.self.places [] streams (c.look.ensures.serves idle)
    (subst From c.note_time.ensures.places (c.accept-is_asked.ensures.serves.2 (c.loop.invariant.dialect plain) idle)) in
    let idle_is = c.accept-is_asked.ensures.limits.0 ∙ ap (λ (l : Limits). l.idle) c.note_time.ensures.limits ∙ ap (λ (l : Limits). l.idle) c.look.ensures.limits ∙ c.loop.invariant.idle in
    let turned = (run_turn g.S.Stream.moved g.S.Stream.has_ended g.S.Stream.failures idle (c.args.self.now.limits.is_kubernetes ≡ false) rules start (g.N.Network.came c.args.network.now c.loop.network) (g.N.Network.came c.args.network.now c.accept-is_asked.new.network) streams
    (λ before is. g.met.N.Network.came_then c.args.network.now c.loop.network c.accept-is_asked.new.network before streams is given)
    c.args.store.now c.loop.store (view rules h) c.loop.self.places c.accept-is_asked.new.self.places before comes c.turn-turned.new.store c.turn-turned.new.self.places
    (subst (λ i. ServesTurn g.S.Stream.moved g.S.Stream.has_ended g.S.Stream.failures i rules c.loop.store c.turn-turned.new.store (seen rules (view rules h) before.answered) c.accept-is_asked.new.self.places c.turn-turned.new.self.places) idle_is
    (c.in-Ok-turned.ensures.serves rules (seen rules (view rules h) before.answered) before.store.shows))) in
    let to = c.send_last-in-Err-compacted.new.network in
    let moved_on = run_waits g.S.Stream.moved g.S.Stream.has_ended g.S.Stream.failures idle (c.args.self.now.limits.is_kubernetes ≡ false) rules start (g.N.Network.came c.args.network.now c.accept-is_asked.new.network) (g.N.Network.came c.args.network.now to) []
    (λ them is. g.met.N.Network.came_then c.args.network.now c.accept-is_asked.new.network to them [] is c.send_last-in-Err-compacted.ensures.came)
    c.args.store.now c.turn-turned.new.store (view rules h) c.turn-turned.new.self.places c.turn-turned.new.self.places turned
    (λ plain. serves_none g.S.Stream.moved g.S.Stream.has_ended g.S.Stream.failures idle c.turn-turned.new.self.places) in
    let stops = c.in-Err-compacted.ensures.stops in
    run_stopped g.S.Stream.moved g.S.Stream.has_ended g.S.Stream.failures idle (c.args.self.now.limits.is_kubernetes ≡ false) rules start c.turn-turned.new.self.places (g.N.Network.came c.args.network.now to) c.args.store.now c.turn-turned.new.store c.compact-compacted.new.store
    (view rules h) moved_on (c.in-Err-compacted.ensures.left rules) (c.in-Err-compacted.ensures.moments rules) stops c.turn.new.self.places c.send_last-in-Err-compacted.new.self.places
    (c.send_last-in-Err-compacted.ensures.ends idle) c.turn.new.store c.turn.result
    (subst (λ i. MatchResult c.turn.result
    (λ _. ServesTurn g.S.Stream.moved g.S.Stream.has_ended g.S.Stream.failures i rules c.compact-compacted.new.store c.turn.new.store (seen rules (view rules h) moved_on.answered) c.turn-turned.new.self.places c.turn.new.self.places)
    (StopsTurn g.S.Stream.moved g.S.Stream.has_ended g.S.Stream.failures i rules c.compact-compacted.new.store c.turn.new.store (seen rules (view rules h) moved_on.answered) c.turn-turned.new.self.places c.turn.new.self.places))
    (ap (λ (l : Limits). l.idle) c.turn-turned.ensures.limits ∙ idle_is)
    (c.turn.ensures.serves rules (seen rules (view rules h) moved_on.answered) (λ working. absurd (true≢false (sym working ∙ stops)))))

pub loop-preserved : goal.loop-preserved
loop-preserved g c =
    let inv = c.loop.invariant in
    let idle = c.args.self.now.limits.idle in
    let start = c.args.self.now.places in
    let streams = c.accept-is_asked.ensures.serves.0 in
    let From : Places g.row.S.Denot → Type 0 = λ p. ServesOn g.S.Stream.moved g.S.Stream.has_ended g.S.Stream.failures idle p c.accept-is_asked.new.self.places streams in
    let given = g.met.N.Network.came_then c.loop.network c.look.new.network c.accept-is_asked.new.network [] streams c.look.ensures.came c.accept-is_asked.ensures.serves.1 in
    let comes = λ (plain : c.args.self.now.limits.is_kubernetes ≡ false). serves_then g.S.Stream.moved g.S.Stream.has_ended g.S.Stream.failures idle c.loop.self.places c.look.new.self.places c.accept-is_asked.new.self.places [] streams (c.look.ensures.serves idle)
    (subst From c.note_time.ensures.places (c.accept-is_asked.ensures.serves.2 (c.loop.invariant.dialect plain) idle)) in
    let idle_is = c.accept-is_asked.ensures.limits.0 ∙ ap (λ (l : Limits). l.idle) c.note_time.ensures.limits ∙ ap (λ (l : Limits). l.idle) c.look.ensures.limits ∙ c.loop.invariant.idle in
    record {
      times = c.in-Ok-compacted.ensures.times ∙ inv.times;
      idle = ap (λ (l : Limits). l.idle) c.turn-turned.ensures.limits ∙ idle_is;
      dialect = inv.dialect;
      served = λ none rules v shows.
          let before = inv.served none rules v shows in
          let turned = (run_turn g.S.Stream.moved g.S.Stream.has_ended g.S.Stream.failures idle (c.args.self.now.limits.is_kubernetes ≡ false) rules start (g.N.Network.came c.args.network.now c.loop.network) (g.N.Network.came c.args.network.now c.accept-is_asked.new.network) streams
          (λ before is. g.met.N.Network.came_then c.args.network.now c.loop.network c.accept-is_asked.new.network before streams is given)
          c.args.store.now c.loop.store v c.loop.self.places c.accept-is_asked.new.self.places before comes c.turn-turned.new.store c.turn-turned.new.self.places
          (subst (λ i. ServesTurn g.S.Stream.moved g.S.Stream.has_ended g.S.Stream.failures i rules c.loop.store c.turn-turned.new.store (seen rules v before.answered) c.accept-is_asked.new.self.places c.turn-turned.new.self.places) idle_is
          (c.in-Ok-turned.ensures.serves rules (seen rules v before.answered) before.store.shows))) in
          let not_due = c.in-Ok-compacted.ensures.idle
          (never_due c.loop.compacting.times c.loop.compacting.put_off_sectors (log_sectors c.turn-turned.new.store) (root_of c.turn-turned.new.store).pages (inv.times ∙ none)) in
          run_same g.S.Stream.moved g.S.Stream.has_ended g.S.Stream.failures idle (c.args.self.now.limits.is_kubernetes ≡ false) rules start c.turn-turned.new.self.places (g.N.Network.came c.args.network.now c.accept-is_asked.new.network) c.args.store.now c.turn-turned.new.store
          c.compact-compacted.new.store v turned not_due.1.0;
      settled = λ rules h settled.
          let before = inv.settled rules h settled in
          let turned = (run_turn g.S.Stream.moved g.S.Stream.has_ended g.S.Stream.failures idle (c.args.self.now.limits.is_kubernetes ≡ false) rules start (g.N.Network.came c.args.network.now c.loop.network) (g.N.Network.came c.args.network.now c.accept-is_asked.new.network) streams
          (λ before is. g.met.N.Network.came_then c.args.network.now c.loop.network c.accept-is_asked.new.network before streams is given)
          c.args.store.now c.loop.store (view rules h) c.loop.self.places c.accept-is_asked.new.self.places before comes c.turn-turned.new.store c.turn-turned.new.self.places
          (subst (λ i. ServesTurn g.S.Stream.moved g.S.Stream.has_ended g.S.Stream.failures i rules c.loop.store c.turn-turned.new.store (seen rules (view rules h) before.answered) c.accept-is_asked.new.self.places c.turn-turned.new.self.places) idle_is
          (c.in-Ok-turned.ensures.serves rules (seen rules (view rules h) before.answered) before.store.shows))) in
          run_compacted g.S.Stream.moved g.S.Stream.has_ended g.S.Stream.failures idle (c.args.self.now.limits.is_kubernetes ≡ false) rules start c.turn-turned.new.self.places (g.N.Network.came c.args.network.now c.accept-is_asked.new.network) c.args.store.now
          c.turn-turned.new.store c.compact-compacted.new.store h turned settled (c.in-Ok-compacted.ensures.kept rules) (c.in-Ok-compacted.ensures.moments rules);
    }
