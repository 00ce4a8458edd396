use Rattle.clients.proofs.Turns.{turns_none, turns_then}
use Rattle.clients.proofs.places.Places.turn_all.Goals as goal

pub loop-place-init : goal.loop-place-init
loop-place-init g c = turns_none g.S.Stream.moved g.S.Stream.has_ended g.S.Stream.failures c.args.idle g.met.S.Stream.moved_none g.met.S.Stream.moved_then c.args.self.now

pub loop-place-preserved : goal.loop-place-preserved
loop-place-preserved g c =
    turns_then g.S.Stream.moved g.S.Stream.has_ended g.S.Stream.failures c.args.idle g.met.S.Stream.moved_none g.met.S.Stream.moved_then _ c.args.self.now c.loop-place.self c.turn.new.self c.loop-place.invariant c.turn.ensures
