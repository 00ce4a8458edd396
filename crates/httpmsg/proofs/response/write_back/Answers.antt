use Rattle.httpmsg.proofs.Flows.{writes_as}
use Rattle.httpmsg.proofs.Pieces.{closing_pieces}
use Rattle.httpmsg.proofs.response.write_back.Goals as goal

pub returns-then-closes-clause-writes : goal.returns-then-closes-clause-writes
returns-then-closes-clause-writes g c =
    writes_as g.O.Output.took g.met.O.Output.took_none g.met.O.Output.took_then c.args.output.now c.write_pieces.new.output _ _ c.write_pieces.result
    (closing_pieces _ c.args.content.now c.args.closes c.if-closes.true c.as_slice.ensures) c.write_pieces.ensures.writes
