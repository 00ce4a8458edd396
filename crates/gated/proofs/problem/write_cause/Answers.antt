use Rattle.httpmsg.proofs.Flows.{writes_as}
use Rattle.gated.proofs.Tellings.{cause_pieces}
use Rattle.gated.proofs.problem.write_cause.Goals as goal

pub returns-clause-writes : goal.returns-clause-writes
returns-clause-writes g c =
    writes_as g.E.Output.took g.met.E.Output.took_none g.met.E.Output.took_then c.args.errors.now c.write_pieces.new.errors _ _ c.write_pieces.result
    (cause_pieces _ _ _ _ _ _ _ c.as_slice.ensures c.as_bytes.ensures.value c.as_slice-2.ensures c.as_bytes-2.ensures.value c.as_slice-3.ensures)
    c.write_pieces.ensures.writes
