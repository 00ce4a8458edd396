use Rattle.httpmsg.proofs.Flows.{writes_as}
use Rattle.httpmsg.proofs.Pieces.{warning_pieces}
use Rattle.httpmsg.proofs.response.write_warning.Goals as goal

pub returns-clause-writes : goal.returns-clause-writes
returns-clause-writes g c =
    writes_as g.O.Output.took g.met.O.Output.took_none g.met.O.Output.took_then c.args.output.now c.write_pieces.new.output _ _ c.write_pieces.result
    (warning_pieces _ _ _ c.args.text.now c.as_slice.ensures c.as_bytes.ensures.value c.as_slice-2.ensures) c.write_pieces.ensures.writes
