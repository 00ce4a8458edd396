use Rattle.std.proofs.Common.{ℕ, List, length}
use Rattle.std.proofs.lemmas.Result.{on_ok_weaker}
use Rattle.device.specs.Run.{Stands}
use Rattle.gatelog.specs.Log.{HoldsLog, IsBeforeOrAfter}
use Rattle.gatelog.specs.Payload.{payload_of}
use Rattle.gatelog.proofs.Appending.{Staged, IsDurable, first_failed_either, first_done, second_either, second_done}
use Rattle.gatelog.proofs.write_record.write_record.Given.{Over}
use Rattle.gatelog.proofs.write_record.write_record.Goals.{After-write_gate}
use Rattle.gatelog.proofs.write_record.write_record.Goals as goal

pub returns-in_err-write_behind-clause-stands : goal.returns-in_err-write_behind-clause-stands
returns-in_err-write_behind-clause-stands g c keeps start payloads holds durable =
    first_failed_either g.D.Device.disk c.args.device.now start c.args.last payloads (payload_of c.args.body.now) c.write_behind.new.device (length c.record_and_gate.result.now)
    keeps (λ content since. g.met.D.Device.only_now c.args.device.now content keeps since) holds durable c.write_behind.ensures.ran

-- the record and the closed gate behind it are on the disk
staged : (g : Over) (c : After-write_gate g) → g.D.Device.disk.keeps c.args.device.now → (start : ℕ) (payloads : List (List ℕ))
    → HoldsLog start payloads c.args.last (g.D.Device.disk.content c.args.device.now)
    → IsDurable g.D.Device.disk c.args.device.now start c.args.last payloads (payload_of c.args.body.now)
    → Stands g.D.Device.disk c.args.device.now c.write_behind.new.device
    (IsBeforeOrAfter start payloads c.args.last (payload_of c.args.body.now) (g.D.Device.disk.content c.args.device.now))
    (Staged c.args.last (payload_of c.args.body.now) (g.D.Device.disk.content c.args.device.now))
staged g c keeps start payloads holds durable =
    first_done g.D.Device.disk c.args.device.now start c.args.last payloads (payload_of c.args.body.now) c.write_behind.new.device c.record_and_gate.result.now
    keeps (λ content since. g.met.D.Device.only_now c.args.device.now content keeps since) holds durable c.write_behind.ensures.ran
    (c.in_ok-write_behind.ensures.durable keeps) c.record_and_gate.ensures.size c.record_and_gate.ensures.body c.record_and_gate.ensures.gate
    (c.in_ok-write_behind.ensures.written keeps)

pub returns-clause-stands : goal.returns-clause-stands
returns-clause-stands g c keeps start payloads holds durable =
    second_either g.D.Device.disk c.args.device.now start c.args.last payloads (payload_of c.args.body.now) c.write_behind.new.device c.write_gate.new.device holds
    (staged g (goal.at.returns-clause-stands g c).After-write_gate keeps start payloads holds durable) c.write_gate.ensures.ran

pub returns-clause-longer : goal.returns-clause-longer
returns-clause-longer g c keeps start payloads holds durable =
    on_ok_weaker c.write_gate.result
    (second_done g.D.Device.disk c.args.device.now start c.args.last payloads (payload_of c.args.body.now) c.write_behind.new.device c.write_gate.new.device holds
    (staged g (goal.at.returns-clause-longer g c).After-write_gate keeps start payloads holds durable))
    (c.write_gate.ensures.written (c.write_behind.ensures.ran.kept keeps))
