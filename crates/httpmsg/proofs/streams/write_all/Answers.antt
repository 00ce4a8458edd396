use Rattle.std.proofs.Common.{◌∙◌, refl}
use Rattle.std.proofs.lemmas.List.{take_rest}
use Rattle.httpmsg.proofs.Flows.{taken_more, taken_some}
use Rattle.httpmsg.proofs.streams.write_all.Goals as goal

pub returns-in-Err-clause-writes : goal.returns-in-Err-clause-writes
returns-in-Err-clause-writes g c =
    taken_some g.O.Output.took g.met.O.Output.took_none g.met.O.Output.took_then
    c.args.output.now c.loop-rest.output c.write.new.self c.args.bytes.now c.loop-rest.rest.now c.loop-rest.invariant.0 c.in-Err.ensures.nothing

pub loop-rest-preserved : goal.loop-rest-preserved
loop-rest-preserved g c = (
  simp take_rest (taken_more g.O.Output.took g.met.O.Output.took_none g.met.O.Output.took_then
      c.args.output.now c.loop-rest.output c.write.new.self c.args.bytes.now c.loop-rest.rest.now c.in-Ok.count c.loop-rest.invariant.0 c.in-Ok.ensures.takes),
  c.in-Ok.ensures.cause.well refl ∙ c.loop-rest.invariant.1,
)
