use Rattle.std.proofs.Common.{arith, refl, ◌∙◌, sym, subst, ◌+◌}
use Rattle.std.proofs.lemmas.Result.{IfOk-from_err}
use Rattle.gatelog.specs.Walk.{HoldsRecord}
use Rattle.gatelog.proofs.Exits.{same_fault, device_alone, no_fault, has_failed, failed_after}
use Rattle.gatelog.proofs.Walking.{leads-next, found-closed, no_log-body, no_log-end, gate-byte, same_then}
use Rattle.gatelog.proofs.reading.last_gate_of.Goals as goal

pub returns-then-sector-clause-found : goal.returns-then-sector-clause-found
returns-then-sector-clause-found g c keeps =
    let inv = c.loop-gate.invariant in
    let content = g.D.Device.disk.content c.args.device.now in
    let byte = gate-byte c.loop-gate.gate c.in_ok-sector.sector (g.D.Device.disk.content c.loop-gate.device) content (c.in_ok-sector.ensures.bytes (inv.ran.kept keeps)) (inv.ran.seen keeps) in
    found-closed c.args.at c.loop-gate.gate c.loop-gate.count content (inv.leads keeps) (omega (arith, inv.end keeps, c.loop-gate-test.true), λ opened. c.if-sector.true (byte ∙ opened))

pub returns-in_err-gate-clause-damaged : goal.returns-in_err-gate-clause-damaged
returns-in_err-gate-clause-damaged g c keeps is_damaged payloads last log =
    let inv = c.loop-gate.invariant in
    let kept = inv.ran.kept keeps in
    let content = g.D.Device.disk.content c.args.device.now in
    let byte = gate-byte c.loop-gate.gate c.in_ok-sector.sector (g.D.Device.disk.content c.loop-gate.device) content (c.in_ok-sector.ensures.bytes kept) (inv.ran.seen keeps) in
    let same = c.read_sector.ensures.ran.seen kept ∙ inv.ran.seen keeps in
    let told = same_fault c.from_residual-in_err-gate.ensures.1 c.in_err-gate.was is_damaged in
    no_log-body c.args.at c.loop-gate.gate c.loop-gate.count content (inv.leads keeps) (sym byte ∙ c.if-sector.false)
    (λ payload holds. c.check_body.ensures.damaged (c.read_sector.ensures.ran.kept kept) told payload (subst (HoldsRecord (c.loop-gate.gate + 1) payload) (sym same) holds))
    payloads last log

pub returns-in_err-gate-clause-ran : goal.returns-in_err-gate-clause-ran
returns-in_err-gate-clause-ran g c =
    let disk = g.D.Device.disk in
    let read = same_then disk c.args.device.now c.loop-gate.device c.read_sector.new.device c.loop-gate.invariant.ran c.read_sector.ensures.ran in
    same_then disk c.args.device.now c.read_sector.new.device c.check_body.new.device read c.check_body.ensures.ran

pub loop-gate-preserved : goal.loop-gate-preserved
loop-gate-preserved g c =
    let inv = c.loop-gate.invariant in
    let disk = g.D.Device.disk in
    let read = same_then disk c.args.device.now c.loop-gate.device c.read_sector.new.device inv.ran c.read_sector.ensures.ran in
    record {
      ran = same_then disk c.args.device.now c.read_sector.new.device c.check_body.new.device read c.check_body.ensures.ran;
      end = inv.end;
      at_most = inv.at_most;
      steady = c.in_ok-gate.ensures.steady ∙ (c.in_ok-sector.ensures.cause.well refl ∙ inv.steady);
      later = omega (arith, inv.later);
      counted = omega (arith, inv.counted);
      leads = λ keeps.
          let content = disk.content c.args.device.now in
          let byte = gate-byte c.loop-gate.gate c.in_ok-sector.sector (disk.content c.loop-gate.device) content (c.in_ok-sector.ensures.bytes (inv.ran.kept keeps)) (inv.ran.seen keeps) in
          let found = c.in_ok-gate.ensures.found (read.kept keeps) in
          leads-next c.args.at c.loop-gate.gate c.loop-gate.count _ content (inv.leads keeps) (sym byte ∙ c.if-sector.false)
          (found.0, found.1, subst (HoldsRecord (c.loop-gate.gate + 1) found.0) (read.seen keeps) found.2);
    }

pub returns-clause-damaged : goal.returns-clause-damaged
returns-clause-damaged g c keeps is_damaged payloads last log =
    let inv = c.loop-gate.invariant in
    no_log-end c.args.at c.loop-gate.gate c.in_ok-end.end c.loop-gate.count (g.D.Device.disk.content c.args.device.now) (inv.leads keeps) (inv.end keeps) c.loop-gate-test.false payloads last log

pub returns-in_err-end-clause-found : goal.returns-in_err-end-clause-found
returns-in_err-end-clause-found g c = λ keeps. IfOk-from_err c.from_residual.result _ c.from_residual.ensures.0

pub returns-in_err-end-clause-damaged : goal.returns-in_err-end-clause-damaged
returns-in_err-end-clause-damaged g c = λ keeps told payloads last log. device_alone c.from_residual.ensures.1 told

pub returns-in_err-end-clause-in_order : goal.returns-in_err-end-clause-in_order
returns-in_err-end-clause-in_order g c = IfOk-from_err c.from_residual.result _ c.from_residual.ensures.0

pub returns-in_err-end-clause-ran : goal.returns-in_err-end-clause-ran
returns-in_err-end-clause-ran g c = c.len.ensures.ran

pub returns-in_err-end-clause-cause : goal.returns-in_err-end-clause-cause
returns-in_err-end-clause-cause g c = λ told. has_failed c.len.ensures.cause c.in_err-end.was

pub returns-in_err-sector-clause-found : goal.returns-in_err-sector-clause-found
returns-in_err-sector-clause-found g c = λ keeps. IfOk-from_err c.from_residual-in_err-sector.result _ c.from_residual-in_err-sector.ensures.0

pub returns-in_err-sector-clause-damaged : goal.returns-in_err-sector-clause-damaged
returns-in_err-sector-clause-damaged g c = λ keeps told payloads last log. device_alone c.from_residual-in_err-sector.ensures.1 told

pub returns-in_err-sector-clause-in_order : goal.returns-in_err-sector-clause-in_order
returns-in_err-sector-clause-in_order g c = IfOk-from_err c.from_residual-in_err-sector.result _ c.from_residual-in_err-sector.ensures.0

pub returns-in_err-sector-clause-ran : goal.returns-in_err-sector-clause-ran
returns-in_err-sector-clause-ran g c =
    same_then g.D.Device.disk c.args.device.now c.loop-gate.device c.read_sector.new.device c.loop-gate.invariant.ran c.read_sector.ensures.ran

pub returns-in_err-sector-clause-cause : goal.returns-in_err-sector-clause-cause
returns-in_err-sector-clause-cause g c = λ told.
    failed_after g.D.Device.disk c.args.device.now c.loop-gate.device c.read_sector.new.device c.loop-gate.invariant.ran.count
    (has_failed c.read_sector.ensures.cause c.in_err-sector.was)

pub returns-then-sector-clause-damaged : goal.returns-then-sector-clause-damaged
returns-then-sector-clause-damaged g c = λ keeps told payloads last log. no_fault told

pub returns-then-sector-clause-ran : goal.returns-then-sector-clause-ran
returns-then-sector-clause-ran g c =
    same_then g.D.Device.disk c.args.device.now c.loop-gate.device c.read_sector.new.device c.loop-gate.invariant.ran c.read_sector.ensures.ran

pub returns-then-sector-clause-cause : goal.returns-then-sector-clause-cause
returns-then-sector-clause-cause g c = λ told. absurd (no_fault told)

pub returns-in_err-gate-clause-found : goal.returns-in_err-gate-clause-found
returns-in_err-gate-clause-found g c = λ keeps. IfOk-from_err c.from_residual-in_err-gate.result _ c.from_residual-in_err-gate.ensures.0

pub returns-in_err-gate-clause-in_order : goal.returns-in_err-gate-clause-in_order
returns-in_err-gate-clause-in_order g c = IfOk-from_err c.from_residual-in_err-gate.result _ c.from_residual-in_err-gate.ensures.0

pub returns-in_err-gate-clause-cause : goal.returns-in_err-gate-clause-cause
returns-in_err-gate-clause-cause g c = λ told.
    let disk = g.D.Device.disk in
    let read = same_then disk c.args.device.now c.loop-gate.device c.read_sector.new.device c.loop-gate.invariant.ran c.read_sector.ensures.ran in
    failed_after disk c.args.device.now c.read_sector.new.device c.check_body.new.device read.count
    (c.check_body.ensures.cause (same_fault c.from_residual-in_err-gate.ensures.1 c.in_err-gate.was told))

pub returns-then-sector-clause-steady : goal.returns-then-sector-clause-steady
returns-then-sector-clause-steady g c = c.in_ok-sector.ensures.cause.well refl ∙ c.loop-gate.invariant.steady
