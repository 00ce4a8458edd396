use Rattle.std.proofs.Common.{◌≡◌, ◌<◌, ◌≤◌, All, length}
use Rattle.names.specs.declared.format.Rules.{Rules}
use Rattle.records.specs.Payload.{group_limit}
use Rattle.decoded.specs.Standing.{View}
use Rattle.durable.specs.Settled.{device_of, serves}
use Rattle.api.specs.Answers.{ShowsAt}
use Rattle.sessions.specs.Notes.{listed}
use Rattle.sessions.proofs.Turns.{TurnedBefore}
use Rattle.sessions.proofs.turn.answer_all.Given as goal

abbrev pub invariant-loop-rest : goal.invariant-loop-rest
invariant-loop-rest g l = record {
  before : (rules : Rules) (v : View) → ShowsAt rules l.fn.store v
      → TurnedBefore rules l.fn.store l.store v l.places l.left l.messages l.rest l.fn.sessions l.sessions
      l.fn.tools.notes.is_kept (listed l.fn.tools.notes) (listed l.tools.notes);
  kept : l.tools.notes.is_kept ≡ l.fn.tools.notes.is_kept;
  device_later : g.D.Device.disk.failures (device_of l.fn.store) ≤ g.D.Device.disk.failures (device_of l.store);
  goes_on : serves l.store ≡ serves l.fn.store;
  few : length l.rest ≤ group_limit;
  alike : length l.left ≡ length l.rest;
  known : All (λ place. place < length l.fn.sessions) l.left;
}

abbrev pub decreases-loop-rest : goal.decreases-loop-rest
decreases-loop-rest g l = length l.rest
