use Rattle.std.proofs.Common.{◌∙◌, ap, length}
use Rattle.gatelog.proofs.Walking.{at_most_one}
use Rattle.gatelog.proofs.gate_log.Log.open.Goals as goal

pub returns-clause-counted : goal.returns-clause-counted
returns-clause-counted g c = λ keeps payloads log.
    let found = c.in_ok-last_gate_sector.ensures.found keeps in
    let last = c.in_ok-last_gate_sector.last_gate_sector in
    found.1
    ∙ ap length (at_most_one c.args.first_gate_sector (g.D.Device.disk.content c.args.device.now) found.0 payloads last last found.2 log).0
