use Rattle.std.proofs.Common.{rules, ◌≡◌, ◌∙◌, sym, refl, map, inl, inr, Some}
use Rattle.requests.specs.RequestOf.{request_of}
use Rattle.durable.specs.declared.fault.Fault.TheVariants as Faults
use Rattle.durable.specs.Settled.{serves}
use Rattle.api.specs.declared.fault.ServeFault.TheVariants.{Device, Damaged, Failed}
use Rattle.api.proofs.Causes.{told_none, memory_no_failure, device_no_failure, damage_no_failure, apart, device_damaged, device_failed, damaged_device, damaged_failed, failed_device, failed_damaged, not_false, not_true, met_failed, no_fault}
use Rattle.api.proofs.Groups.{served_all}
use Rattle.api.proofs.answer.replies_to.Goals as goal

pub returns-in-None : goal.returns-in-None
returns-in-None g c =
    let run = c.run-replies.ensures in
    record {
      served = λ rules v serving.
          served_all rules c.args.store.now c.run-replies.new.self v (map request_of c.args.requests.now) c.run-replies.result.0.items serving (run.all c.in-None.is);
      serves = not_false (serves c.args.store.now) (λ stopped. told_none Faults.Failed (sym c.in-None.is ∙ (run.failed stopped).2));
      goes_on = run.goes_on (inl c.in-None.is);
      stopped = λ is. absurd (no_fault is);
      stops = λ is. absurd (no_fault is);
      damaged = λ damage is. absurd (no_fault is);
      damaged_stops = λ damage is. absurd (no_fault is);
      failed = λ is. absurd (no_fault is);
      refusal = tt;
      cause = λ is. absurd (no_fault is);
      count = run.count;
    }

pub returns-in-Some-Memory : goal.returns-in-Some-Memory
returns-in-Some-Memory g c =
    let run = c.run-replies.ensures in
    let found : c.run-replies.result.1 ≡ Some Faults.Memory = search rules in
    record {
      served = λ rules v serving. run.memory found;
      serves = not_false (serves c.args.store.now) (λ stopped. memory_no_failure (sym found ∙ (run.failed stopped).2));
      goes_on = run.goes_on (inr found);
      stopped = λ is. absurd (no_fault is);
      stops = λ is. absurd (no_fault is);
      damaged = λ damage is. absurd (no_fault is);
      damaged_stops = λ damage is. absurd (no_fault is);
      failed = λ is. absurd (no_fault is);
      refusal = tt;
      cause = λ is. absurd (no_fault is);
      count = run.count;
    }

pub returns-in-Some-Device : goal.returns-in-Some-Device
returns-in-Some-Device g c =
    let run = c.run-replies.ensures in
    let found : c.run-replies.result.1 ≡ Some Faults.Device = search rules in
    record {
      served = λ rules v serving. tt;
      serves = tt;
      goes_on = tt;
      stopped = λ is. (c.run-replies.result.0.items, run.device found);
      stops = λ is. (not_false (serves c.args.store.now) (λ stopped. device_no_failure (sym found ∙ (run.failed stopped).2)), run.stops found);
      damaged = λ damage is. apart Device (Damaged damage) (device_damaged damage) is;
      damaged_stops = λ damage is. apart Device (Damaged damage) (device_damaged damage) is;
      failed = λ is. apart Device Failed device_failed is;
      refusal = inl refl;
      cause = λ is. run.cause found;
      count = run.count;
    }

pub returns-in-Some-Damaged : goal.returns-in-Some-Damaged
returns-in-Some-Damaged g c =
    let run = c.run-replies.ensures in
    let spoiled = c.in-Some-Damaged.damage in
    let found : c.run-replies.result.1 ≡ Some (Faults.Damaged spoiled) = search rules in
    record {
      served = λ rules v serving. tt;
      serves = tt;
      goes_on = tt;
      stopped = λ is. apart (Damaged spoiled) Device (damaged_device spoiled) is;
      stops = λ is. apart (Damaged spoiled) Device (damaged_device spoiled) is;
      damaged = λ damage is. run.damaged spoiled found;
      damaged_stops = λ damage is. (not_false (serves c.args.store.now) (λ stopped. damage_no_failure spoiled (sym found ∙ (run.failed stopped).2)), run.damaged_stops spoiled found);
      failed = λ is. apart (Damaged spoiled) Failed (damaged_failed spoiled) is;
      refusal = inr (inr (spoiled, refl));
      cause = λ is. apart (Damaged spoiled) Device (damaged_device spoiled) is;
      count = run.count;
    }

pub returns-in-Some-Failed : goal.returns-in-Some-Failed
returns-in-Some-Failed g c =
    let run = c.run-replies.ensures in
    let found : c.run-replies.result.1 ≡ Some Faults.Failed = search rules in
    let before = not_true (serves c.args.store.now) (λ working. met_failed _ (run.refusal working) found) in
    record {
      served = λ rules v serving. tt;
      serves = tt;
      goes_on = tt;
      stopped = λ is. apart Failed Device failed_device is;
      stops = λ is. apart Failed Device failed_device is;
      damaged = λ damage is. apart Failed (Damaged damage) (failed_damaged damage) is;
      damaged_stops = λ damage is. apart Failed (Damaged damage) (failed_damaged damage) is;
      failed = λ is. (before, (run.failed before).0);
      refusal = inr (inl refl);
      cause = λ is. apart Failed Device failed_device is;
      count = run.count;
    }
