use Rattle.std.proofs.Common.{refl}
use Rattle.gatelog.proofs.Appending.{starts_closed}
use Rattle.gatelog.proofs.gate_log.Log.start.Goals as goal

pub returns-clause-stands : goal.returns-clause-stands
returns-clause-stands g c = λ keeps.
    let disk = g.D.Device.disk in
    (refl, starts_closed c.args.first_gate_sector (disk.content c.args.device.now) (disk.content c.write.new.self) (c.requires keeps) (c.in_ok-write.ensures.written keeps))

pub returns-clause-written : goal.returns-clause-written
returns-clause-written g c = c.in_ok-write.ensures.written

pub returns-clause-ran : goal.returns-clause-ran
returns-clause-ran g c = c.write.ensures.ran

pub returns-in_err-write-clause-ran : goal.returns-in_err-write-clause-ran
returns-in_err-write-clause-ran g c = c.write.ensures.ran
