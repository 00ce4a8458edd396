use Rattle.std.proofs.Common.{◌∙◌, sym, subst, true≢false}
use Rattle.histories.specs.View.{view}
use Rattle.objects.specs.Failing.{HasGrown}
use Rattle.durable.proofs.Answering.{settled_serves}
use Rattle.api.specs.Answers.{ShowsAt}
use Rattle.api.proofs.Folds.{grown_after}
use Rattle.store.proofs.Whole.{stopped_before, answered_whole, stopped_serving, stopped_at, opening_caused, opening_undamaged, serving_caused, serving_undamaged}
use Rattle.store.proofs.answering.answer.Goals as goal

pub returns-in-Err-clause-undamaged : goal.returns-in-Err-clause-undamaged
returns-in-Err-clause-undamaged g c rules h holds = opening_undamaged c.in-Err.fault (c.in-Err.ensures.refusal rules h holds.keeps holds.read)

pub returns-in-Err-clause-caused : goal.returns-in-Err-clause-caused
returns-in-Err-clause-caused g c = opening_caused _ _ _ c.in-Err.fault c.in-Err.ensures.never_failed c.in-Err.ensures.cause

pub returns-in-Err-clause-ended_early : goal.returns-in-Err-clause-ended_early
returns-in-Err-clause-ended_early g c rules h holds =
    stopped_before rules g.D.Device.disk c.args.device c.in-Err.device h holds (c.in-Err.ensures.any_moment_err holds.keeps) (c.in-Err.ensures.content_err holds.keeps)
    (c.in-Err.ensures.left_err holds.keeps) g.I.Input.gave g.O.Output.took c.args.input.now c.args.output.now (g.met.I.Input.gave_none c.args.input.now)
    (g.met.O.Output.took_none c.args.output.now) _ _

pub returns-in-Ok-serve-clause-answered : goal.returns-in-Ok-serve-clause-answered
returns-in-Ok-serve-clause-answered g c rules h holds =
    let settled = c.in-Ok.ensures.settled rules h holds.keeps holds.read in
    answered_whole rules c.args.device c.in-Ok.store c.serve.new.store h holds settled (c.in-Ok.ensures.any_moment holds.keeps) g.I.Input.gave g.O.Output.took c.args.input.now
    c.serve.new.input c.args.output.now c.serve.new.output (g.I.Input.has_ended c.serve.new.input) c.in-Ok-serve.field-0 c.into_device.result c.into_device.ensures
    (c.in-Ok-serve.ensures.ended rules (view rules h) (λ serving. settled_serves rules c.in-Ok.store h settled))

pub returns-in-Err-serve-clause-undamaged : goal.returns-in-Err-serve-clause-undamaged
returns-in-Err-serve-clause-undamaged g c rules h holds =
    let settled = c.in-Ok.ensures.settled rules h holds.keeps holds.read in
    serving_undamaged c.serve.result c.in-Err-serve.fault c.in-Err-serve.is (c.serve.ensures.never_damaged rules (view rules h) (λ serving. settled_serves rules c.in-Ok.store h settled))

pub returns-in-Err-serve-clause-caused : goal.returns-in-Err-serve-clause-caused
returns-in-Err-serve-clause-caused g c =
    let Grown : g.row.D.Denot → Type 0 = λ d. HasGrown (g.D.Device.disk.failures c.args.device) (g.D.Device.disk.failures d) in
    serving_caused _ _ _ c.serve.result c.in-Err-serve.fault c.in-Err-serve.is c.serve.ensures.read_cause c.serve.ensures.write_cause
    (λ is. subst Grown (sym c.into_device-in-Err-serve.ensures)
    (grown_after (g.D.Device.disk.failures c.args.device) (g.D.Device.disk.failures c.in-Ok.store.device) (g.D.Device.disk.failures c.serve.new.store.device) c.in-Ok.ensures.count
    (c.serve.ensures.device_cause is)))
    (λ is. true≢false (sym c.in-Ok.ensures.serves ∙ c.serve.ensures.failed is))

pub returns-in-Err-serve-clause-ended_early : goal.returns-in-Err-serve-clause-ended_early
returns-in-Err-serve-clause-ended_early g c rules h holds =
    let settled = c.in-Ok.ensures.settled rules h holds.keeps holds.read in
    let serving : ShowsAt rules c.in-Ok.store (view rules h) = λ working. settled_serves rules c.in-Ok.store h settled in
    let Grown : g.row.D.Denot → Type 0 = λ d. HasGrown (g.D.Device.disk.failures c.args.device) (g.D.Device.disk.failures d) in
    stopped_serving rules c.args.device c.in-Ok.store c.serve.new.store h holds settled (c.in-Ok.ensures.any_moment holds.keeps) g.I.Input.gave g.O.Output.took g.O.Output.failures
    c.args.input.now c.serve.new.input c.args.output.now c.serve.new.output c.serve.result (c.serve.ensures.read rules (view rules h) serving)
    (c.serve.ensures.write rules (view rules h) serving) (c.serve.ensures.device rules (view rules h) serving) (c.serve.ensures.memory rules (view rules h) serving)
    (g.met.I.Input.gave_none c.args.input.now) (g.met.O.Output.took_none c.args.output.now) Grown c.serve.ensures.write_cause
    (λ is. grown_after (g.D.Device.disk.failures c.args.device) (g.D.Device.disk.failures c.in-Ok.store.device) (g.D.Device.disk.failures c.serve.new.store.device) c.in-Ok.ensures.count
    (c.serve.ensures.device_cause is))
    (c.serve.ensures.never_damaged rules (view rules h) serving) (λ is. true≢false (sym settled.working ∙ c.serve.ensures.failed is)) c.in-Err-serve.fault c.in-Err-serve.is
    c.into_device-in-Err-serve.result c.into_device-in-Err-serve.ensures

pub returns-in-Ok-serve-clause-served : goal.returns-in-Ok-serve-clause-served
returns-in-Ok-serve-clause-served g c =
    record {
      opened = c.in-Ok.store;
      served = c.serve.new.store;
      given_back = c.into_device.ensures;
      settled = λ rules h holds. c.in-Ok.ensures.settled rules h holds.keeps holds.read;
      serving = c.in-Ok.ensures.serves;
      numbers = c.in-Ok.ensures.rules;
      redone = c.in-Ok.ensures.redone;
      at_views = λ rules v shows. (c.in-Ok-serve.field-0, c.in-Ok-serve.ensures.ended rules v (λ working. shows));
    }

pub returns-in-Err-serve-clause-stopped : goal.returns-in-Err-serve-clause-stopped
returns-in-Err-serve-clause-stopped g c =
    record {
      opened = c.in-Ok.store;
      served = c.serve.new.store;
      given_back = c.into_device-in-Err-serve.ensures;
      settled = λ rules h holds. c.in-Ok.ensures.settled rules h holds.keeps holds.read;
      serving = c.in-Ok.ensures.serves;
      numbers = c.in-Ok.ensures.rules;
      redone = c.in-Ok.ensures.redone;
      at_views = λ rules v shows.
          let showing : ShowsAt rules c.in-Ok.store v = λ working. shows in
          stopped_at g.I.Input.gave g.O.Output.took g.O.Output.failures c.args.input.now c.serve.new.input c.args.output.now c.serve.new.output c.in-Ok.store c.serve.new.store rules v c.serve.result
          (c.serve.ensures.read rules v showing) (c.serve.ensures.write rules v showing) (c.serve.ensures.device rules v showing) (c.serve.ensures.memory rules v showing)
          (c.serve.ensures.never_damaged rules v showing) c.in-Err-serve.fault c.in-Err-serve.is;
    }
