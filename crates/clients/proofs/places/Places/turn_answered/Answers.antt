use Rattle.clients.proofs.Turns.{turns_none, turns_then}
use Rattle.clients.proofs.places.Places.turn_answered.Goals as goal

pub loop-index-init : goal.loop-index-init
loop-index-init g c = turns_none g.S.Stream.moved g.S.Stream.has_ended g.S.Stream.failures c.args.idle g.met.S.Stream.moved_none g.met.S.Stream.moved_then c.args.self.now

pub loop-index-preserved : goal.loop-index-preserved
loop-index-preserved g c =
    turns_then g.S.Stream.moved g.S.Stream.has_ended g.S.Stream.failures c.args.idle g.met.S.Stream.moved_none g.met.S.Stream.moved_then _ c.args.self.now c.loop-index.self c.turn.new.self c.loop-index.invariant c.turn.ensures
