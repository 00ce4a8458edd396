use Rattle.std.proofs.Common.{rules, arith, refl, ap, inl, inr, ⊎_elim, ◌≡◌, ◌∙◌}
use Rattle.std.proofs.lemmas.Result.{IfOk-from_err}
use Rattle.gatelog.proofs.Exits.{same_fault, no_fault, damaged_alone}
use Rattle.gatelog.proofs.Logs.{inside}
use Rattle.gatelog.proofs.Walking.{no_log-record, none-left, first-left}
use Rattle.gatelog.proofs.reading.payload_behind.Goals as goal

pub returns-then-gate-last-clause-found : goal.returns-then-gate-last-clause-found
returns-then-gate-last-clause-found g c = λ keeps payloads log.
    none-left payloads c.args.gate c.args.last (g.D.Device.disk.content c.args.device.now) c.if-gate-last.true log

pub returns-then-gate-end-clause-damaged : goal.returns-then-gate-end-clause-damaged
returns-then-gate-end-clause-damaged g c = λ keeps is_damaged payloads log.
    let within = inside payloads c.args.gate c.args.last (g.D.Device.disk.content c.args.device.now) log in
    absurd (omega (arith, within.1, c.requires.end keeps, c.if-gate-last.false, c.if-gate-end.true))

pub returns-in_err-payload-clause-damaged : goal.returns-in_err-payload-clause-damaged
returns-in_err-payload-clause-damaged g c = λ keeps is_damaged payloads log.
    let told = same_fault c.from_residual.ensures.1 c.in_err-payload.was is_damaged in
    no_log-record payloads c.args.gate c.args.last (g.D.Device.disk.content c.args.device.now) log c.if-gate-last.false
    (λ payload holds. c.read_payload.ensures.damaged keeps told payload holds)

pub returns-clause-found : goal.returns-clause-found
returns-clause-found g c = λ keeps payloads log.
    first-left payloads c.args.gate c.sectors_of.result c.args.last (g.D.Device.disk.content c.args.device.now) c.in_ok-payload.payload.items c.if-gate-last.false
    (search rules) (λ first holds. c.in_ok-payload.ensures.found keeps first holds) log
