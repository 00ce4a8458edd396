use Rattle.httpmsg.proofs.Flows.{piece_some}
use Rattle.gated.proofs.problem.write_pieces.Goals as goal

pub returns-in-Err-clause-writes : goal.returns-in-Err-clause-writes
returns-in-Err-clause-writes g c =
    piece_some g.E.Output.took g.met.E.Output.took_none g.met.E.Output.took_then (λ p. p.now) c.args.pieces.now c.loop-piece.piece-index _
    c.args.errors.now c.loop-piece.errors c.write_all.new.output c.loop-piece-test.true c.loop-piece.invariant.0 c.in-Err.ensures.writes
