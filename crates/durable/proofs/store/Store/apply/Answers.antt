use Rattle.std.proofs.Common.{arith, ◌∙◌, refl, sym, [], true≢false}
use Rattle.std.proofs.lemmas.Result.{IfOk-from_err}
use Rattle.checkpoint.proofs.Faults.{no_fault}
use Rattle.requests.specs.RequestOf.{request_of}
use Rattle.durable.specs.declared.fault.Fault.TheVariants as Faults
use Rattle.durable.specs.Settled.{device_of}
use Rattle.durable.proofs.Called.{err_same, serves_refused, serves_failed, serves_passed, passed_on, failed_alone, no_device, no_memory, no_damage, failed_device}
use Rattle.durable.proofs.Findings.{leaves-idle}
use Rattle.durable.proofs.Renewing.{failed_then}
use Rattle.durable.proofs.Unwritten.{idle}
use Rattle.durable.proofs.Grouping.{settled_still, failed_reading, replied, failed}
use Rattle.durable.proofs.store.Store.apply.Goals as goal

pub returns-then-not-self : goal.returns-then-not-self
returns-then-not-self g c = record {
  ok = λ serves. tt;
  device = λ is. failed_alone Faults.Device no_device is;
  memory_serving = λ rules v serving is. failed_alone Faults.Memory no_memory is;
  memory = λ rules h settled is. failed_alone Faults.Memory no_memory is;
  damaged = λ damage is. failed_alone (Faults.Damaged damage) (no_damage damage) is;
  damaged_ran = λ damage is. failed_alone (Faults.Damaged damage) (no_damage damage) is;
  refusal = λ serves. absurd (true≢false (sym serves ∙ c.if-not-self.true));
  failed = λ stopped. (refl, refl);
  goes_on = tt;
  stops = λ is. c.if-not-self.true;
  damaged_stops = λ damage is. c.if-not-self.true;
  memory_goes_on = λ is. refl;
  cause = λ is. failed_alone Faults.Device no_device is;
  count = omega arith;
  steady = tt;
  unfailed = λ is. failed_alone Faults.Memory no_memory is;
}

pub returns-in_err-group : goal.returns-in_err-group
returns-in_err-group g c =
    let store = c.args.self.now in
    let told = c.from_residual.result in
    let working = c.if-not-self.false in
    let leaves = serves_refused store store told c.from_residual.ensures.1 refl working refl in
    let only_now = g.met.D.Device.only_now store.device in
    record {
      ok = λ serves. IfOk-from_err told _ c.from_residual.ensures.0;
      device = λ is. absurd (true≢false (sym working ∙ leaves.stops is));
      memory_serving = λ rules v serving is. (serving, idle g.D.Device.disk (device_of store) only_now);
      memory = λ rules h settled is. (settled, leaves-idle rules store h [] (λ content since. only_now content settled.keeps since) settled);
      damaged = λ damage is. absurd (true≢false (sym working ∙ leaves.damaged_stops damage is));
      damaged_ran = λ damage is. absurd (true≢false (sym working ∙ leaves.damaged_stops damage is));
      refusal = λ serves. leaves.refusal;
      failed = λ stopped. absurd (true≢false (sym working ∙ stopped));
      goes_on = IfOk-from_err told _ c.from_residual.ensures.0;
      stops = leaves.stops;
      damaged_stops = leaves.damaged_stops;
      memory_goes_on = λ is. refl;
      cause = leaves.cause;
      count = omega arith;
      steady = IfOk-from_err told _ c.from_residual.ensures.0;
      unfailed = leaves.unfailed;
    }

pub returns-in_err-reply : goal.returns-in_err-reply
returns-in_err-reply g c =
    let store = c.args.self.now in
    let new = c.step.new.self in
    let told = c.from_residual-in_err-reply.result in
    let passed = c.from_residual-in_err-reply.ensures in
    let was = c.in_err-reply.was in
    let leaves = serves_passed told passed.1 was c.step.ensures.leaves in
    let working = c.if-not-self.false in
    record {
      ok = λ serves. IfOk-from_err told _ passed.0;
      device = λ is.
          let read = c.step.ensures.read (passed_on told Faults.Device passed.1 was is) in
          failed_reading store new (request_of c.args.request.now) c.step.ensures.device read.0 read.1 (leaves.stops is);
      memory_serving = λ rules v serving is.
          ((c.step.ensures.stays (passed_on told Faults.Memory passed.1 was is)).serving rules v serving, c.step.ensures.device);
      memory = λ rules h settled is.
          settled_still store new c.step.ensures.device (c.step.ensures.stays (passed_on told Faults.Memory passed.1 was is)).serving rules h settled;
      damaged = λ damage is. c.step.ensures.damaged damage (passed_on told (Faults.Damaged damage) passed.1 was is);
      damaged_ran = λ damage is. c.step.ensures.device;
      refusal = λ serves. leaves.refusal;
      failed = λ stopped. absurd (true≢false (sym working ∙ stopped));
      goes_on = IfOk-from_err told _ passed.0;
      stops = leaves.stops;
      damaged_stops = leaves.damaged_stops;
      memory_goes_on = λ is. leaves.memory_goes_on is ∙ sym working;
      cause = leaves.cause;
      count = c.step.ensures.device.count;
      steady = IfOk-from_err told _ passed.0;
      unfailed = leaves.unfailed;
    }

pub returns-in_err-append_group : goal.returns-in_err-append_group
returns-in_err-append_group g c =
    let store = c.args.self.now in
    let mid = c.step.new.self in
    let new = c.append_group.new.self in
    let disk = g.D.Device.disk in
    let told = c.from_residual-in_err-append_group.result in
    let passed = c.from_residual-in_err-append_group.ensures in
    let appended = c.in_err-append_group.ensures in
    let stopped = appended.serves in
    let cause = failed_then disk (device_of store) (device_of mid) (device_of new) c.step.ensures.device (appended.cause.failed refl) in
    let leaves = serves_failed store new told passed.1 (err_same appended.refusal) stopped cause in
    record {
      ok = λ serves. IfOk-from_err told _ passed.0;
      device = λ is.
          failed store mid new c.step.new.group c.step.ensures.device c.append_group.ensures.paged c.append_group.ensures.lies c.append_group.ensures.stands c.in_ok-group.group
          (request_of c.args.request.now) c.in_ok-reply.reply c.in_ok-group.ensures c.in_ok-reply.ensures.stepped appended.some stopped;
      memory_serving = λ rules v serving is. absurd (true≢false (sym (leaves.memory_goes_on is) ∙ stopped));
      memory = λ rules h settled is. absurd (true≢false (sym (leaves.memory_goes_on is) ∙ stopped));
      damaged = λ damage is. failed_device told damage passed.1 (err_same appended.refusal) is;
      damaged_ran = λ damage is. failed_device told damage passed.1 (err_same appended.refusal) is;
      refusal = λ serves. leaves.refusal;
      failed = λ was. absurd (true≢false (sym c.if-not-self.false ∙ was));
      goes_on = IfOk-from_err told _ passed.0;
      stops = leaves.stops;
      damaged_stops = leaves.damaged_stops;
      memory_goes_on = λ is. absurd (true≢false (sym (leaves.memory_goes_on is) ∙ stopped));
      cause = leaves.cause;
      count = omega (arith, c.step.ensures.device.count, c.append_group.ensures.cause.later);
      steady = IfOk-from_err told _ passed.0;
      unfailed = leaves.unfailed;
    }

pub returns : goal.returns
returns g c =
    let working = c.in_ok-append_group.ensures.serves in
    record {
      ok = λ serves.
          replied c.args.self.now c.step.new.self c.append_group.new.self c.step.new.group c.step.ensures.device c.append_group.ensures.paged c.append_group.ensures.lies
          c.append_group.ensures.stands c.in_ok-group.group (request_of c.args.request.now) c.in_ok-reply.reply c.in_ok-group.ensures c.in_ok-reply.ensures.stepped working
          c.append_group.ensures.nothing c.in_ok-append_group.ensures.appended;
      device = λ is. absurd (no_fault is);
      memory_serving = λ rules v serving is. absurd (no_fault is);
      memory = λ rules h settled is. absurd (no_fault is);
      damaged = λ damage is. absurd (no_fault is);
      damaged_ran = λ damage is. absurd (no_fault is);
      refusal = λ serves. tt;
      failed = λ was. absurd (true≢false (sym c.if-not-self.false ∙ was));
      goes_on = working;
      stops = λ is. absurd (no_fault is);
      damaged_stops = λ damage is. absurd (no_fault is);
      memory_goes_on = λ is. absurd (no_fault is);
      cause = λ is. absurd (no_fault is);
      count = omega (arith, c.step.ensures.device.count, c.append_group.ensures.cause.later);
      steady = c.in_ok-append_group.ensures.cause.well refl ∙ c.in_ok-reply.ensures.leaves.steady;
      unfailed = λ is. absurd (no_fault is);
    }
