use Rattle.std.proofs.Common.{◌++◌, refl, codes}
use Rattle.httpmsg.proofs.Flows.{some_front, writes_then}
use Rattle.gated.specs.Problem.{reason_line}
use Rattle.gated.proofs.problem.write_lines.Goals as goal

pub returns-in-Err-clause-writes : goal.returns-in-Err-clause-writes
returns-in-Err-clause-writes g c =
    some_front g.E.Output.took g.met.E.Output.took_none g.met.E.Output.took_then c.args.errors.now c.write_line.new.errors
    (codes "gated: " ++ c.args.text.now ++ codes "\n") (reason_line c.args.reason) _ c.in-Err.ensures.writes refl

pub returns-clause-writes : goal.returns-clause-writes
returns-clause-writes g c =
    writes_then g.E.Output.took g.met.E.Output.took_none g.met.E.Output.took_then c.args.errors.now c.write_line.new.errors c.write_reason.new.errors
    (codes "gated: " ++ c.args.text.now ++ codes "\n") (reason_line c.args.reason) c.write_reason.result c.in_default.ensures.writes c.write_reason.ensures.writes
