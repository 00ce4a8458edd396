use Rattle.std.proofs.Common.{None}
use Rattle.clients.proofs.Turns.{ends_none, ends_then}
use Rattle.clients.proofs.places.Places.last_turn_all.Goals as goal

pub loop-place-init : goal.loop-place-init
loop-place-init g c = ends_none g.S.Stream.moved g.S.Stream.has_ended g.S.Stream.failures None g.met.S.Stream.moved_none g.met.S.Stream.moved_then c.args.self.now

pub loop-place-preserved : goal.loop-place-preserved
loop-place-preserved g c =
    ends_then g.S.Stream.moved g.S.Stream.has_ended g.S.Stream.failures None g.met.S.Stream.moved_none g.met.S.Stream.moved_then c.loop-place.place c.args.self.now c.loop-place.self c.last_turn.new.self c.loop-place.invariant c.last_turn.ensures
