use Rattle.httpmsg.proofs.Flows.{piece_some}
use Rattle.httpmsg.proofs.response.write_pieces.Goals as goal

pub returns-in-Err-clause-writes : goal.returns-in-Err-clause-writes
returns-in-Err-clause-writes g c =
    piece_some g.O.Output.took g.met.O.Output.took_none g.met.O.Output.took_then (λ p. p.now) c.args.pieces.now c.loop-piece.piece-index _
    c.args.output.now c.loop-piece.output c.write_all.new.output c.loop-piece-test.true c.loop-piece.invariant.0 c.in-Err.ensures.writes
